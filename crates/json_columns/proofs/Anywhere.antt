-- What holds of some item of a list, by the list's first item and the others.
use Rattle.std.proofs.Common.{◌≡◌, ◌⊎◌, inl, inr, ℕ, zero, suc, ◌<◌, List, [], ◌∷◌, ◌++◌, map, length, refl, sym, subst, arith, slice_index_or}
use Rattle.std.specs.List.{Any}

abbrev pub AnyOf : {X : Type 0} → (X → Type 0) → List X → Type 0
AnyOf P [] = ⊥
AnyOf P (x ∷ xs) = P x ⊎ AnyOf P xs

pub to_any : {X : Type 0} (P : X → Type 0) (xs : List X) → AnyOf P xs → Any P xs
to_any P [] h = absurd h
to_any P (x ∷ xs) (inl p) = (0, x, omega arith, refl, p)
to_any P (x ∷ xs) (inr h) = let r = to_any P xs h in (suc r.0, r.1, omega (arith, r.2), r.3, r.4)

at_position : {X : Type 0} (P : X → Type 0) (xs : List X) (k : ℕ) (x : X) → k < length xs → slice_index_or xs k x ≡ x → P x → AnyOf P xs
at_position P [] k x l e p = absurd (omega (arith, l))
at_position P (y ∷ ys) zero x l e p = inl (subst P (sym e) p)
at_position P (y ∷ ys) (suc k) x l e p = inr (at_position P ys k x (omega (arith, l)) e p)

pub from_any : {X : Type 0} (P : X → Type 0) (xs : List X) → Any P xs → AnyOf P xs
from_any P xs h = at_position P xs h.0 h.1 h.2 h.3 h.4

pub weaker : {X : Type 0} (P Q : X → Type 0) (xs : List X) → ((x : X) → P x → Q x) → AnyOf P xs → AnyOf Q xs
weaker P Q [] f h = absurd h
weaker P Q (x ∷ xs) f (inl p) = inl (f x p)
weaker P Q (x ∷ xs) f (inr h) = inr (weaker P Q xs f h)

pub of_map : {X Y : Type 0} (P : Y → Type 0) (f : X → Y) (xs : List X) → AnyOf P (map f xs) → AnyOf (λ x. P (f x)) xs
of_map P f [] h = absurd h
of_map P f (x ∷ xs) (inl p) = inl p
of_map P f (x ∷ xs) (inr h) = inr (of_map P f xs h)

pub in_map : {X Y : Type 0} (P : Y → Type 0) (f : X → Y) (xs : List X) → AnyOf (λ x. P (f x)) xs → AnyOf P (map f xs)
in_map P f [] h = absurd h
in_map P f (x ∷ xs) (inl p) = inl p
in_map P f (x ∷ xs) (inr h) = inr (in_map P f xs h)

pub of_append : {X : Type 0} (P : X → Type 0) (xs ys : List X) → AnyOf P (xs ++ ys) → AnyOf P xs ⊎ AnyOf P ys
of_append P [] ys h = inr h
of_append P (x ∷ xs) ys (inl p) = inl (inl p)
of_append P (x ∷ xs) ys (inr h) = elim (of_append P xs ys h) [ inl a ↦ inl (inr a) | inr b ↦ inr b ]
