-- Which fields of a record are kept: those whose numbers are given, counted from 0, or all.
use Rattle.std.specs.Prelude.{◌≢◌, ℕ, ◌<◌, Bool, true, List, map, All, AllPairs, Option, Some, None, ⊤}
use Rattle.std.specs.List.{range_with_len}
use Rattle.arrow_base.specs.Outside.{is_among}

abbrev pub is_kept : Option (List ℕ) → ℕ → Bool
is_kept None i = true
is_kept (Some numbers) i = is_among numbers i

-- of n fields
abbrev pub projection_of : Option (List ℕ) → ℕ → List Bool
projection_of keep n = map (is_kept keep) (range_with_len 0 n)

-- each number is that of one of n fields, and none is named twice
pub record AreNumbers (n : ℕ) (numbers : List ℕ) : Type 0 where
  pub within : All (λ i. i < n) numbers
  pub distinct : AllPairs (λ i j. i ≢ j) numbers

abbrev pub NamesFields : Option (List ℕ) → ℕ → Type 0
NamesFields None n = ⊤
NamesFields (Some numbers) n = AreNumbers n numbers
