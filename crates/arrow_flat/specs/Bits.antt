-- A bitmap that grows: its words, and how many bits they hold. Of what is here only mask_of has
-- to be read to believe a public contract; private contracts and models alone cite the rest.
use Rattle.std.specs.Prelude.{ℕ, ◌*◌, ◌+◌, ◌^◌, ◌<◌, ◌≤◌, ◌≡◌, Bool, true, List, [], length, min, replicate, Option, None, Some}
use Rattle.arrow_array.specs.Bits.{Packed, bit_of}

-- The words are as many as n bits take, and no bit past the last is set.
pub record HoldBits (words : List ℕ) (n : ℕ) : Type 0 where
  pub enough : n ≤ 64 * length words
  pub tight : 64 * length words < n + 64
  pub clear : (k : ℕ) → n ≤ k → bit_of words k ≡ 0
  pub fits : n + 64 ≤ 2 ^ 63

-- Either no bit is written, and slots are counted down within the spare capacity for their bits, or there is nothing to
-- count.
pub record CountsDown (bits : List Bool) (spare capacity free : ℕ) : Type 0 where
  pub below : free ≤ capacity
  pub within : capacity ≤ spare
  pub whole : length bits ≡ 0 → capacity ≡ spare
  pub apart : 1 ≤ capacity → bits ≡ []
  pub few : capacity ≤ 9223372036854775744

-- a validity that says the same as these booleans, where none says that all are valid
abbrev pub Tells : Option Packed → List Bool → Type 0
Tells None booleans = booleans ≡ replicate (length booleans) true
Tells (Some validity) booleans = validity.booleans ≡ booleans

-- how many bits fit such a capacity of words
abbrev pub bit_capacity : ℕ → ℕ
bit_capacity capacity = min (64 * capacity) 9223372036854775744

-- the validity of an array whose slots are valid where the booleans say so
abbrev pub mask_of : List Bool → Packed
mask_of booleans = record { booleans = booleans; words = []; offset = 0 }
