-- Counts of 64 bits, which stand still at their last value.
use Rattle.std.specs.Prelude.{ℕ, ◌+◌, ◌-◌, ◌^◌, min, max}

-- the count after a rise: it passes the last value of 64 bits by no rise, and never falls
abbrev pub risen : ℕ → ℕ → ℕ
risen count by = max count (min (count + by) (2 ^ 64 - 1))
