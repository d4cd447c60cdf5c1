-- What a projection keeps, by location.
use Rattle.std.proofs.Common.{◌≡◌, ◌↔◌, ℕ, zero, suc, ◌<◌, Bool, true, false, List, [], ◌∷◌, length, refl, arith}
use Rattle.std.specs.Prelude.{All, slice_index_or}
use Rattle.std.specs.List.{AllByRecursion}
use Rattle.std.proofs.lemmas.Bool.{false≢true}
use Rattle.std.proofs.lemmas.List.Elements.{All-from_recursion, recursion_from_All}
use Rattle.avro_schema.specs.ValidBlock.{kept}

at_index : {A : Type 0} (P : A → Type 0) (xs : List A) (projection : List Bool) → AllByRecursion P (kept xs projection) → (k : ℕ) (d : A) → k < length xs → slice_index_or projection k false ≡ true → P (slice_index_or xs k d)
at_index P [] projection h k d l e = absurd (omega (arith, l))
at_index P (x ∷ xs) [] h k d l e = absurd (false≢true e)
at_index P (x ∷ xs) (true ∷ projection) h zero d l e = h.0
at_index P (x ∷ xs) (true ∷ projection) h (suc k) d l e = at_index P xs projection h.1 k d (omega (arith, l)) e
at_index P (x ∷ xs) (false ∷ projection) h zero d l e = absurd (false≢true e)
at_index P (x ∷ xs) (false ∷ projection) h (suc k) d l e = at_index P xs projection h k d (omega (arith, l)) e

all_kept : {A : Type 0} (P : A → Type 0) (xs : List A) (projection : List Bool) → ((k : ℕ) (d : A) → k < length xs → slice_index_or projection k false ≡ true → P (slice_index_or xs k d)) → AllByRecursion P (kept xs projection)
all_kept P [] projection h = tt
all_kept P (x ∷ xs) [] h = tt
all_kept P (x ∷ xs) (true ∷ projection) h =
    (h 0 x (omega arith) refl, all_kept P xs projection (λ k d l e. h (suc k) d (omega (arith, l)) e))
all_kept P (x ∷ xs) (false ∷ projection) h = all_kept P xs projection (λ k d l e. h (suc k) d (omega (arith, l)) e)

-- what holds of each kept element holds at each index that the projection keeps
pub kept_by_index : {A : Type 0} (P : A → Type 0) (xs : List A) (projection : List Bool) → All P (kept xs projection) ↔ ((k : ℕ) (d : A) → k < length xs → slice_index_or projection k false ≡ true → P (slice_index_or xs k d))
kept_by_index P xs projection = (
  λ h. at_index P xs projection (recursion_from_All P (kept xs projection) h),
  λ h. All-from_recursion P (kept xs projection) (all_kept P xs projection h),
)
