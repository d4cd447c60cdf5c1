-- Words one after another, each with what it stands for.
use Rattle.std.proofs.Common.{◌≡◌, ◌∙◌, ℕ, zero, suc, ◌+◌, ◌<◌, List, [], ◌∷◌, ◌++◌, length, take, sym, ap, subst, arith, refl}
use Rattle.std.specs.Prelude.{slice_index_or}
use Rattle.std.specs.List.{AllZip}
use Rattle.std.proofs.lemmas.List.{take_more}

module _ {A : Type 0} (Is : List ℕ → A → Type 0) where
  -- where a word stands for one thing at most, so do the words
  pub one_list : ((word : List ℕ) (x y : A) → Is word x → Is word y → x ≡ y) → (words : List (List ℕ)) (xs ys : List A) → AllZip Is words xs → AllZip Is words ys → xs ≡ ys
  one_list one [] [] [] h d = refl
  one_list one [] [] (y ∷ ys) h d = absurd d
  one_list one [] (x ∷ xs) ys h d = absurd h
  one_list one (w ∷ ws) [] ys h d = absurd h
  one_list one (w ∷ ws) (x ∷ xs) [] h d = absurd d
  one_list one (w ∷ ws) (x ∷ xs) (y ∷ ys) h d =
      let here : x ≡ y = one w x y h.0 d.0 in
      let more = one_list one ws xs ys h.1 d.1 in
      (λ i. here i ∷ more i)

  push : (words : List (List ℕ)) (xs : List A) (word : List ℕ) (x : A) → AllZip Is words xs → Is word x → AllZip Is (words ++ word ∷ []) (xs ++ x ∷ [])
  push [] [] word x h r = (r, tt)
  push [] (y ∷ xs) word x h r = absurd h
  push (w ∷ ws) [] word x h r = absurd h
  push (w ∷ ws) (y ∷ xs) word x h r = (h.0, push ws xs word x h.1 r)

  -- one word more
  pub next : (words : List (List ℕ)) (i : ℕ) (xs : List A) (word : List ℕ) (x : A) → i < length words → word ≡ slice_index_or words i word → AllZip Is (take i words) xs → Is word x → AllZip Is (take (i + 1) words) (xs ++ x ∷ [])
  next words i xs word x low at h r =
      let longer : take (i + 1) words ≡ take i words ++ (word ∷ []) = take_more words i word low ∙ ap (λ z. take i words ++ (z ∷ [])) (sym at) in
      subst (λ z. AllZip Is z (xs ++ x ∷ [])) (sym longer) (push (take i words) xs word x h r)

  -- where one word stands for nothing, the words don't
  pub none_of : (words : List (List ℕ)) (i : ℕ) (word : List ℕ) → i < length words → word ≡ slice_index_or words i word → ((x : A) → Is word x → ⊥) → (xs : List A) → AllZip Is words xs → ⊥
  none_of [] i word low at none xs h = absurd (omega (arith, low))
  none_of (w ∷ ws) i word low at none [] h = absurd h
  none_of (w ∷ ws) zero word low at none (x ∷ xs) h = none x (subst (λ z. Is z x) (sym at) h.0)
  none_of (w ∷ ws) (suc i) word low at none (x ∷ xs) h = none_of ws i word (omega (arith, low)) at none xs h.1
