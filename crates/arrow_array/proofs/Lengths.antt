-- Arrays of the same length.
use Rattle.std.proofs.Common.{◌≡◌, zero, suc, sym, ap, arith, ℕ, ◌<◌, List, [], ◌∷◌, Some, length, slice_index_or, slice_get, ◌∙◌}
use Rattle.std.specs.List.{All}
use Rattle.arrow_array.specs.declared.array.Array.{Array}
use Rattle.arrow_array.specs.Arrays.{array_slots}
use Rattle.arrow_array.specs.Chunks.{AreSameLength}

-- all arrays of a chunk have the length of the first
pub as_first : (arrays : List Array) (first : Array) → AreSameLength arrays → Some first ≡ slice_get arrays 0 → All (λ a. length (array_slots a) ≡ length (array_slots first)) arrays
as_first [] first h e k d l = absurd (omega (arith, l))
as_first (a ∷ arrays) first h e zero d l = let p : first ≡ a = cc in ap (λ z. length (array_slots z)) (sym p)
as_first (a ∷ arrays) first h e (suc k) d l = let p : first ≡ a = cc in rw p (sym (h 0 (suc k) d (omega arith) l))

-- array i of a chunk has the length of the first
pub as_array : (arrays : List Array) (i : ℕ) (first a : Array) → AreSameLength arrays → 0 < i → i < length arrays → first ≡ slice_index_or arrays 0 first → a ≡ slice_index_or arrays i a → length (array_slots a) ≡ length (array_slots first)
as_array [] i first a h p l e d = absurd (omega (arith, l))
as_array (x ∷ arrays) i first a h p l e d = ap (λ z. length (array_slots z)) d ∙ sym (h 0 i a p l) ∙ ap (λ z. length (array_slots z)) (sym e)
