-- Booleans packed 64 to a word, from the lowest bit on (Arrow columnar format, "Validity bitmaps").
use Rattle.std.specs.Prelude.{ℕ, ◌/◌, ◌%◌, ◌==◌, Bool, List, map, drop, slice_index_or}
use Rattle.std.specs.Int.{bit_at}
use Rattle.std.specs.List.{range_with_len}

-- bit k, counted from the lowest bit of the first word
abbrev pub bit_of : List ℕ → ℕ → ℕ
bit_of words k = bit_at (slice_index_or words (k / 64) 0) (k % 64)

-- whether bit k is set
abbrev pub boolean_of : List ℕ → ℕ → Bool
boolean_of words k = bit_of words k == 1

-- n booleans from bit start on
abbrev pub booleans_of : List ℕ → ℕ → ℕ → List Bool
booleans_of words start n = map (boolean_of words) (range_with_len start n)

-- a bitmap: its booleans, and where they lie in the words
pub record Packed : Type 0 where
  pub booleans : List Bool
  pub words : List ℕ
  pub offset : ℕ

-- the bitmap of n bits from bit start on: its words are those from the first bit's on
abbrev pub packed_of : List ℕ → ℕ → ℕ → Packed
packed_of words start n = record { booleans = booleans_of words start n; words = drop (start / 64) words; offset = start % 64 }
