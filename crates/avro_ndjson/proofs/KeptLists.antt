-- What is made of the kept ones of a list, one at a time.
use Rattle.std.proofs.Common.{◌≡◌, ◌∙◌, ℕ, zero, suc, ◌+◌, ◌<◌, ◌≤◌, Bool, true, false, List, [], ◌∷◌, ◌++◌, length, get_or, drop, map, refl, sym, ap, add-one, append_assoc, arith}
use Rattle.std.proofs.lemmas.List.{append-nil, map-id}
use Rattle.std.proofs.Math.Seq.{drop-cons}
use Rattle.avro_schema.specs.ValidBlock.{kept}

-- what is done, and what is left from index i on, is the whole
abbrev pub KeptSoFar : {A B : Type 0} → (A → B) → List A → List Bool → ℕ → List B → Type 0
KeptSoFar f xs keeps i done = done ++ map f (kept (drop i xs) (drop i keeps)) ≡ map f (kept xs keeps)

module _ {A B : Type 0} (f : A → B) (xs : List A) (keeps : List Bool) (i : ℕ) (x : A) (done : List B) (lt : i < length xs) (same : length xs ≡ length keeps) (so : KeptSoFar f xs keeps i done) where
  item_at : drop i xs ≡ get_or xs i x ∷ drop (i + 1) xs
  item_at = drop-cons xs i x lt ∙ ap (λ (j : ℕ). get_or xs i x ∷ drop j xs) (sym (add-one i))

  choice_at : drop i keeps ≡ get_or keeps i false ∷ drop (i + 1) keeps
  choice_at = drop-cons keeps i false (omega (arith, lt, same)) ∙ ap (λ (j : ℕ). get_or keeps i false ∷ drop j keeps) (sym (add-one i))

  rest_is : (v : Bool) → get_or keeps i false ≡ v → kept (drop i xs) (drop i keeps) ≡ kept (get_or xs i x ∷ drop (i + 1) xs) (v ∷ drop (i + 1) keeps)
  rest_is v e = ap (λ (ys : List A). kept ys (drop i keeps)) item_at ∙ ap (λ (ks : List Bool). kept (get_or xs i x ∷ drop (i + 1) xs) ks) (choice_at ∙ ap (λ (w : Bool). w ∷ drop (i + 1) keeps) e)

  pub kept_more : get_or keeps i false ≡ true → (y : B) → y ≡ f (get_or xs i x) → KeptSoFar f xs keeps (i + 1) (done ++ y ∷ [])
  kept_more e y is =
      append_assoc done (y ∷ []) (map f (kept (drop (i + 1) xs) (drop (i + 1) keeps)))
      ∙ ap (λ (z : B). done ++ z ∷ map f (kept (drop (i + 1) xs) (drop (i + 1) keeps))) is
      ∙ ap (λ (ys : List A). done ++ map f ys) (sym (rest_is true e)) ∙ so

  pub kept_passed : get_or keeps i false ≡ false → KeptSoFar f xs keeps (i + 1) done
  kept_passed e = ap (λ (ys : List A). done ++ map f ys) (sym (rest_is false e)) ∙ so

none_left : {A : Type 0} (xs : List A) (k : ℕ) → length xs ≤ k → drop k xs ≡ []
none_left [] zero h = refl
none_left [] (suc k) h = refl
none_left (x ∷ xs) zero h = absurd (omega (arith, h))
none_left (x ∷ xs) (suc k) h = none_left xs k (omega (arith, h))

pub kept_all : {A B : Type 0} (f : A → B) (xs : List A) (keeps : List Bool) (i : ℕ) (done : List B) → length xs ≤ i → KeptSoFar f xs keeps i done → done ≡ map f (kept xs keeps)
kept_all {A} f xs keeps i done le so =
    sym (append-nil done) ∙ ap (λ (ys : List A). done ++ map f (kept ys (drop i keeps))) (sym (none_left xs i le)) ∙ so

-- where nothing is made of them
pub kept_whole : {A : Type 0} (xs : List A) (keeps : List Bool) (i : ℕ) (done : List A) → length xs ≤ i → KeptSoFar (λ (x : A). x) xs keeps i done → done ≡ kept xs keeps
kept_whole xs keeps i done le so = kept_all (λ x. x) xs keeps i done le so ∙ map-id (kept xs keeps)

pub some_of : {A : Type 0} (xs : List A) → 0 < length xs → A
some_of [] h = absurd (omega (arith, h))
some_of (x ∷ xs) h = x
