-- Columns slot by slot.
use Rattle.std.proofs.Common.{◌≡◌, ◌∙◌, ℕ, ◌+◌, ◌<◌, List, [], ◌∷◌, ◌++◌, length, map, take, get_or, sym, ap, add-one, take-suc}
use Rattle.std.proofs.lemmas.List.{map-append}

-- what is made of one element more, after what is made of those before it
pub map_take : {A B : Type 0} (f : A → B) (xs : List A) (i : ℕ) (x : A) → i < length xs → x ≡ get_or xs i x → map f (take i xs) ++ f x ∷ [] ≡ map f (take (i + 1) xs)
map_take f xs i x l at =
    ap (λ z. map f (take i xs) ++ f z ∷ []) at ∙ sym (map-append f (take i xs) (get_or xs i x ∷ []))
    ∙ sym (ap (λ zs. map f zs) (take-suc xs i x l)) ∙ ap (λ n. map f (take n xs)) (sym (add-one i))

pub map_more : {A B : Type 0} (f : A → B) (xs : List A) (i : ℕ) (x : A) (y : B) (done now : List B) → i < length xs → x ≡ get_or xs i x → done ≡ map f (take i xs) → now ≡ done ++ y ∷ [] → y ≡ f x
    → now ≡ map f (take (i + 1) xs)
map_more f xs i x y done now l at so more is = more ∙ (λ j. so j ++ is j ∷ []) ∙ map_take f xs i x l at
