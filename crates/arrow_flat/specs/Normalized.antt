-- Offsets that begin at 0 and end with the buffer that they point into (Arrow columnar format, "Variable-size Binary
-- Layout"): nothing stands before the first slot, and nothing after the last.
use Rattle.std.specs.Prelude.{◌≡◌, ℕ, ◌-◌, ℤ, pos, List, length}
use Rattle.arrow_array.specs.Offsets.{offset_at}

-- of a buffer of n items
pub record AreNormalized (offsets : List ℤ) (n : ℕ) : Type 0 where
  pub first : offset_at offsets 0 ≡ pos 0
  pub last : offset_at offsets (length offsets - 1) ≡ pos n
