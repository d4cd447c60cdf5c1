-- Lists in which each item stands once.
use Rattle.std.proofs.Common.{◌≡◌, refl, sym, ap, subst, ◌∙◌, ℕ, ◌+◌, ◌≤◌, List, [], ◌∷◌, ◌++◌, Bool, true, false, cond, ◌||◌, ◌&&◌, ◌⊎◌, inl, inr, ◌↔◌, arith}
use Rattle.std.specs.List.{list_any}
use Rattle.json_infer.specs.Lists.{with_one, with_all, distinct, Among, EachOnce, SameMembers, total}

pub and_true : (a b : Bool) → (a && b) ≡ true → (a ≡ true) × (b ≡ true)
and_true true b h = (refl, h)
and_true false b h = cc

pub true_and : (a b : Bool) → a ≡ true → b ≡ true → (a && b) ≡ true
true_and true b h k = k
true_and false b h k = cc

-- a test that each way implies the other is one
pub one_test : (a b : Bool) → (a ≡ true → b ≡ true) → (b ≡ true → a ≡ true) → a ≡ b
one_test true true h k = refl
one_test true false h k = sym (h refl)
one_test false true h k = k refl
one_test false false h k = refl

pub or_true : (a b : Bool) → (a || b) ≡ true → (a ≡ true) ⊎ (b ≡ true)
or_true true b h = inl refl
or_true false b h = inr h

pub true_or : (a b : Bool) → (a ≡ true) ⊎ (b ≡ true) → (a || b) ≡ true
true_or true b h = refl
true_or false b (inl h) = cc
true_or false b (inr h) = h

module _ {A : Type 0} where
  pub among_append : (x : A) (xs ys : List A) → Among x (xs ++ ys) → Among x xs ⊎ Among x ys
  among_append x [] ys h = inr h
  among_append x (y ∷ xs) ys (inl h) = inl (inl h)
  among_append x (y ∷ xs) ys (inr h) = elim (among_append x xs ys h) [ inl k ↦ inl (inr k) | inr k ↦ inr k ]

  pub append_among : (x : A) (xs ys : List A) → Among x xs ⊎ Among x ys → Among x (xs ++ ys)
  append_among x [] ys (inl h) = absurd h
  append_among x [] ys (inr h) = h
  append_among x (y ∷ xs) ys (inl (inl h)) = inl h
  append_among x (y ∷ xs) ys (inl (inr h)) = inr (append_among x xs ys (inl h))
  append_among x (y ∷ xs) ys (inr h) = inr (append_among x xs ys (inr h))

  once_more : (xs : List A) (x : A) → EachOnce xs → (Among x xs → ⊥) → EachOnce (xs ++ (x ∷ []))
  once_more [] x h k = ((λ e. e), tt)
  once_more (y ∷ xs) x h k =
      ((λ e. elim (among_append y xs (x ∷ []) e) [ inl e' ↦ h.0 e' | inr e' ↦ elim e' [ inl p ↦ k (inl (sym p)) | inr e'' ↦ e'' ] ]), once_more xs x h.1 (λ e. k (inr e)))

  -- the list without one occurrence of x
  less : (x : A) (ys : List A) → Among x ys → List A
  less x [] h = absurd h
  less x (y ∷ ys) (inl h) = ys
  less x (y ∷ ys) (inr h) = y ∷ less x ys h

  less_total : (w : A → ℕ) (x : A) (ys : List A) (h : Among x ys) → total w ys ≡ w x + total w (less x ys h)
  unfolding less
  less_total w x [] h = absurd h
  less_total w x (y ∷ ys) (inl h) = ap (λ z. w z + total w ys) h
  less_total w x (y ∷ ys) (inr h) = let e = less_total w x ys h in omega arith

  less_among : (x z : A) (ys : List A) (h : Among x ys) → (z ≡ x → ⊥) → Among z ys → Among z (less x ys h)
  unfolding less
  less_among x z [] h n k = absurd h
  less_among x z (y ∷ ys) (inl h) n (inl k) = absurd (n (sym k ∙ h))
  less_among x z (y ∷ ys) (inl h) n (inr k) = k
  less_among x z (y ∷ ys) (inr h) n (inl k) = inl k
  less_among x z (y ∷ ys) (inr h) n (inr k) = inr (less_among x z ys h n k)

  total_below : (w : A → ℕ) (xs ys : List A) → EachOnce xs → ((x : A) → Among x xs → Among x ys) → total w xs ≤ total w ys
  total_below w [] ys once all = omega arith
  total_below w (x ∷ xs) ys once all =
      let here : Among x ys = all x (inl refl) in
      let e : total w ys ≡ w x + total w (less x ys here) = less_total w x ys here in
      let below : total w xs ≤ total w (less x ys here) = total_below w xs (less x ys here) once.1 (λ z k. less_among x z ys here (λ p. once.0 (subst (λ (q : A). Among q xs) p k)) (all z (inr k))) in
      omega arith

  -- lists with the same members, each once, have the same total
  pub same_total : (w : A → ℕ) (xs ys : List A) → EachOnce xs → EachOnce ys → SameMembers xs ys → total w xs ≡ total w ys
  same_total w xs ys a b s = let p = total_below w xs ys a (λ x. (s x).0) in let q = total_below w ys xs b (λ x. (s x).1) in omega arith

module _ {A : Type 0} (same : A → A → Bool) (exact : (x y : A) → (same x y ≡ true) ↔ (x ≡ y)) where
  pub has_among : (ys : List A) (x : A) → list_any (same x) ys ≡ true → Among x ys
  has_among [] x h = cc
  has_among (y ∷ ys) x h = elim (or_true (same x y) (list_any (same x) ys) h) [ inl k ↦ inl (sym ((exact x y).0 k)) | inr k ↦ inr (has_among ys x k) ]

  pub among_has : (ys : List A) (x : A) → Among x ys → list_any (same x) ys ≡ true
  among_has [] x h = absurd h
  among_has (y ∷ ys) x (inl h) = true_or (same x y) (list_any (same x) ys) (inl ((exact x y).1 (sym h)))
  among_has (y ∷ ys) x (inr h) = true_or (same x y) (list_any (same x) ys) (inr (among_has ys x h))

  chosen_among : (b : Bool) (ys : List A) (x z : A) → (b ≡ true → Among x ys) → Among z (cond b ys (ys ++ (x ∷ []))) ↔ (Among z ys ⊎ (x ≡ z))
  chosen_among true ys x z h = ((λ k. inl k), (λ k. elim k [ inl k' ↦ k' | inr p ↦ subst (λ (q : A). Among q ys) p (h refl) ]))
  chosen_among false ys x z h = (
    (λ k. elim (among_append z ys (x ∷ []) k) [ inl k' ↦ inl k' | inr k' ↦ elim k' [ inl p ↦ inr p | inr e ↦ absurd e ] ]),
    (λ k. append_among z ys (x ∷ []) (elim k [ inl k' ↦ inl k' | inr p ↦ inr (inl p) ])),
  )

  chosen_once : (b : Bool) (ys : List A) (x : A) → (Among x ys → b ≡ true) → EachOnce ys → EachOnce (cond b ys (ys ++ (x ∷ [])))
  chosen_once true ys x h once = once
  chosen_once false ys x h once = once_more ys x once (λ k. let p : false ≡ true = h k in cc)

  pub with_all_among : (ys xs : List A) (z : A) → Among z (with_all same ys xs) ↔ (Among z ys ⊎ Among z xs)
  with_all_among ys [] z = ((λ k. inl k), (λ k. elim k [ inl k' ↦ k' | inr e ↦ absurd e ]))
  with_all_among ys (x ∷ xs) z =
      let one = chosen_among (list_any (same x) ys) ys x z (has_among ys x) in
      let rest = with_all_among (with_one same ys x) xs z in (
        (λ k. elim (rest.0 k) [ inl k' ↦ elim (one.0 k') [ inl a ↦ inl a | inr p ↦ inr (inl p) ] | inr k' ↦ inr (inr k') ]),
        (λ k. rest.1 (elim k [ inl a ↦ inl (one.1 (inl a)) | inr a ↦ elim a [ inl p ↦ inl (one.1 (inr p)) | inr b ↦ inr b ] ])),
      )

  pub with_all_once : (ys xs : List A) → EachOnce ys → EachOnce (with_all same ys xs)
  with_all_once ys [] once = once
  with_all_once ys (x ∷ xs) once = with_all_once (with_one same ys x) xs (chosen_once (list_any (same x) ys) ys x (among_has ys x) once)

  pub distinct_among : (xs : List A) (z : A) → Among z (distinct same xs) ↔ Among z xs
  distinct_among xs z =
      let all = with_all_among [] xs z in
      ((λ k. elim (all.0 k) [ inl e ↦ absurd e | inr a ↦ a ]), (λ k. all.1 (inr k)))

  pub distinct_once : (xs : List A) → EachOnce (distinct same xs)
  distinct_once xs = with_all_once [] xs tt
