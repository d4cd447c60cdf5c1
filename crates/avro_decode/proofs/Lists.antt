-- A list more, and a struct more, while children grow.
use Rattle.std.proofs.Common.{◌≡◌, ◌∙◌, ℕ, List, [], ◌∷◌, ◌++◌, length, drop, Option, refl, sym, ap, arith}
use Rattle.arrow_core.specs.declared.slot.Slot.{Slot}
use Rattle.arrow_core.specs.declared.slot.Slot.TheVariants as slot
use Rattle.arrow_builders.specs.Nested.{items_of, lists_from}
use Rattle.arrow_builders.proofs.Staying.{lists_stay, drop_prefix, grown as grown_there}
use Rattle.avro_decode.specs.Decoding.{grown}

pub list_more : (old new mid child items now : List Slot) (lens : List (Option ℕ)) → length child ≡ items_of lens → now ≡ child ++ items → old ≡ lists_from 0 lens child → mid ≡ lists_from 0 lens now → new ≡ mid ++ slot.List (drop (items_of lens) now) ∷ [] → new ≡ old ++ slot.List items ∷ []
list_more old new mid child items now lens l e o m n =
    let s : mid ≡ old = m ∙ ap (λ (xs : List Slot). lists_from 0 lens xs) e ∙ lists_stay 0 lens child items (omega (arith, l)) ∙ sym o in
    let d : drop (items_of lens) now ≡ items = ap (λ (xs : List Slot). drop (items_of lens) xs) e ∙ ap (λ (k : ℕ). drop k (child ++ items)) (sym l) ∙ drop_prefix child items in
    n ∙ ap (λ (xs : List Slot). mid ++ slot.List xs ∷ []) d ∙ ap (λ (xs : List Slot). xs ++ slot.List items ∷ []) s

-- the columns of children, as the library of builders tells them
pub grown_is : (cs : List (List Slot)) (xs : List Slot) → grown cs xs ≡ grown_there cs xs
grown_is [] xs = refl
grown_is (c ∷ cs) [] = refl
grown_is (c ∷ cs) (x ∷ xs) = ap (λ (ds : List (List Slot)). (c ++ x ∷ []) ∷ ds) (grown_is cs xs)
