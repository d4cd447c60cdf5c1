-- The buffers of a builder of slots of variable length (Arrow columnar format, "Variable-size Binary Layout"). The model
-- of such a builder cites them; of what is here only content_len has to be read to believe a public contract.
use Rattle.std.specs.Prelude.{◌≡◌, ℕ, ◌+◌, ◌<◌, ℤ, pos, Option, None, Some, List, length}
use Rattle.arrow_core.specs.declared.slot.Slot.{Slot}
use Rattle.arrow_array.specs.Offsets.{offset_at, part, IsOffsets}

-- n slots lie one after another in the bytes: the first offset is 0, the last is the end of the bytes, and each slot has bytes that it may have
pub record HoldContents (holds : List ℕ → Type 0) (offsets : List ℤ) (bytes : List ℕ) (n : ℕ) : Type 0 where
  pub count : length offsets ≡ n + 1
  pub first : offset_at offsets 0 ≡ pos 0
  pub last : offset_at offsets n ≡ pos (length bytes)
  pub offsets_fit : IsOffsets offsets (length bytes)
  pub contents_fit : (k : ℕ) → k + 1 < length offsets → holds (part offsets bytes k)

-- what slot makes of the bytes between offset k and the next
abbrev pub content_at : (List ℕ → Slot) → List ℤ → List ℕ → ℕ → Slot
content_at slot offsets bytes k = slot (part offsets bytes k)

-- how many bytes a slot takes that may be missing
abbrev pub content_len : Option (List ℕ) → ℕ
content_len None = 0
content_len (Some bytes) = length bytes
