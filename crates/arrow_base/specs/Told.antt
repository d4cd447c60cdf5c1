-- Sources that tell the bytes still to come, and sources that don't.
use mathlib.Core.Bool.{true≢false}
use Rattle.std.proofs.Common.{◌≡◌, List, ℕ, Bool, true, false, if◌then◌else◌, Option, Some, None, refl, ap}

abbrev is_told : Option (List ℕ) → Bool
is_told None = false
is_told (Some bytes) = true

-- what is told isn't untold
pub told : (bytes : List ℕ) → Some bytes ≡ None → ⊥
told bytes h = true≢false (ap is_told h)

-- what is told in neither of two cases isn't told
pub either_way : (b : Bool) → ◌≡◌ {A = Option (List ℕ)} (if b then None else None) None
either_way true = refl
either_way false = refl
