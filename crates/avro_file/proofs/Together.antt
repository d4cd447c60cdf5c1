-- Parts that are read one after another give what all of them give together.
use Rattle.std.proofs.Common.{◌≡◌, ℕ, suc, ◌+◌, ◌<◌, Bool, true, false, List, [], ◌∷◌, ◌++◌, length, get_or, drop, map, Option, Some, None, refl, sym, ap, append_assoc, add-one, drop-cons, arith}
use Rattle.std.proofs.lemmas.List.{at_drop_all}
use Rattle.json_tree.specs.Tree.{Json}
use Rattle.avro_file.specs.Outcome.{Outcome, wrong, reference, found, one_more, each}

-- after these parts, with or without a reference in them, the rest
abbrev pub so_far : {A : Type 0} → Bool → List A → Outcome (List A) → Outcome (List A)
so_far refers xs wrong = wrong
so_far refers xs reference = reference
so_far true xs (found ys) = reference
so_far false xs (found ys) = found (xs ++ ys)

one_found : {A : Type 0} (r : Bool) (xs : List A) (x : A) (o : Outcome (List A)) → so_far r xs (one_more (found x) o) ≡ so_far r (xs ++ x ∷ []) o
one_found r xs x wrong = refl
one_found r xs x reference = refl
one_found true xs x (found ys) = refl
one_found false xs x (found ys) = ap found (sym (append_assoc xs (x ∷ []) ys))

-- the part at i and those after it
at_part : {A : Type 0} (f : Json → Outcome A) (items : List Json) (i : ℕ) (x : Json) → i < length items → x ≡ get_or items i x → each (map f (drop i items)) ≡ one_more (f x) (each (map f (drop (i + 1) items)))
at_part f items i x l e = rw (add-one, drop-cons items i x) (ap (λ y. one_more (f y) (each (map f (drop (suc i) items)))) (sym e))

pub next_wrong : {A : Type 0} (f : Json → Outcome A) (items : List Json) (i : ℕ) (x : Json) (r : Bool) (xs : List A) →
    i < length items → x ≡ get_or items i x → f x ≡ wrong → so_far r xs (each (map f (drop i items))) ≡ wrong
next_wrong f items i x r xs l e is = rw (at_part f items i x l e, is) refl

-- no part is left
pub at_end : {A : Type 0} (f : Json → Outcome A) (items : List Json) (r : Bool) (xs : List A) → so_far r xs (each (map f (drop (length items) items))) ≡ so_far r xs (found [])
at_end f items r xs = at_drop_all (λ rest. so_far r xs (each (map f rest))) items (length items) (omega arith)

-- ---- strings

abbrev pub strings_after : List (List ℕ) → Option (List (List ℕ)) → Option (List (List ℕ))
strings_after xs None = None
strings_after xs (Some ys) = Some (xs ++ ys)
