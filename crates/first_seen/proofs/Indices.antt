-- The index of a key, after one more.
use Rattle.std.proofs.Common.{is_some, IfSome, ◌≡◌, ◌∙◌, refl, sym, ap, ℕ, suc, ◌+◌, ◌<◌, ◌≤◌, Bool, true, false, cond, List, [], ◌∷◌, ◌++◌, ◌||◌, ◌⊎◌, inl, inr, zero, nat_lt, get_or, length, take, position, Option, Some, None, if◌then◌else◌, arith}
use Rattle.std.proofs.lemmas.Iterator.Adapters.{position_from-zero}
use Rattle.std.proofs.lemmas.List.{length-append, take-append-le, take_all}
use Rattle.std.proofs.lemmas.Option.{slice_get-get_or}
use borrow.Author.Tests.{ltb-true}
use Rattle.std.specs.Borrow.{Bor}
use Rattle.std.specs.BTreeMap.{BTreeMap, Updates, get}
use Rattle.std.specs.Cmp.{IsEquivalence}
use Rattle.std.specs.List.{list_any, position_from, slice_get}
use Rattle.std.specs.Option.{option_or}
use Rattle.std.specs.Ordering.{is_eq}
use Rattle.std.specs.declared.cmp.Ordering.{Ordering}
use Rattle.first_seen.specs.Keys.{Indexed, hashed_keys, index_of, with_key}

module _ {K : Type 0} (test : K → Bool) where
  there : (i j : ℕ) (ks : List K) → position_from test i ks ≡ Some j → list_any test ks ≡ true
  there i j [] h = absurd cc
  there i j (x ∷ ks) h = by_first (test x) h (there (i + 1) j ks)
    where
      by_first : (b : Bool) → cond b (Some i) (position_from test (i + 1) ks) ≡ Some j → (position_from test (i + 1) ks ≡ Some j → list_any test ks ≡ true) → (b || list_any test ks) ≡ true
      by_first true e rest = refl
      by_first false e rest = rest e

  pub below : (i j : ℕ) (ks : List K) → position_from test i ks ≡ Some j → j < i + length ks
  below i j [] h = absurd cc
  below i j (x ∷ ks) h = by_first (test x) h (below (i + 1) j ks)
    where
      by_first : (b : Bool) → cond b (Some i) (position_from test (i + 1) ks) ≡ Some j → (position_from test (i + 1) ks ≡ Some j → j < i + 1 + length ks) → j < i + suc (length ks)
      by_first true e rest = let p : i ≡ j = cc in omega (arith, p)
      by_first false e rest = omega (arith, rest e)

  absent : (i : ℕ) (ks : List K) → position_from test i ks ≡ None → list_any test ks ≡ false
  absent i [] h = refl
  absent i (x ∷ ks) h = by_first (test x) h (absent (i + 1) ks)
    where
      by_first : (b : Bool) → cond b (Some i) (position_from test (i + 1) ks) ≡ None → (position_from test (i + 1) ks ≡ None → list_any test ks ≡ false) → (b || list_any test ks) ≡ false
      by_first true e rest = absurd cc
      by_first false e rest = rest e

-- an item of a list that is lent
pub held : {K : Type 0} (xs ys : List K) (i : ℕ) (x : K) → ys ≡ xs → true ≡ nat_lt i (length ys) → x ≡ get_or ys i x → slice_get xs i ≡ Some x
held xs ys i x v t e =
    let l : i < length ys = ltb-true i (length ys) (sym t) in
    ap (λ us. slice_get us i) (sym v) ∙ slice_get-get_or ys i x l ∙ ap (λ y. Some y) (sym e)

module _ {K : Type 0} (same : K → K → Bool) where
  -- the item of a list that is lent is found where it stands
  pub stands : (ks us seen : List K) (i : ℕ) (r : Option (Bor K)) → ((j : ℕ) (k : K) → slice_get ks j ≡ Some k → index_of same ks k ≡ Some j) → us ≡ ks → ks ≡ seen
      → is_some r ≡ nat_lt i (length us) → IfSome r (λ x. x.now ≡ get_or us i x.now) → IfSome r (λ x. index_of same seen x.now ≡ Some i)
  stands ks us seen i None once v s t e = tt
  stands ks us seen i (Some x) once v s t e = ap (λ zs. index_of same zs x.now) (sym s) ∙ once i x.now (held ks us i x.now v t e)

  -- a key that the set has
  pub in_set : (compare : K → K → Ordering) (hashed ks seen : List K) (m : BTreeMap K ℕ) (key : K) (i : ℕ) → Indexed same compare hashed m ks → ks ≡ seen → Some i ≡ position (same key) hashed → Some i ≡ index_of same seen key
  in_set compare hashed ks seen m key i h s e = ap (λ o. option_or o (get compare m key)) (e ∙ position_from-zero (same key) hashed) ∙ h.1 key ∙ ap (λ us. index_of same us key) s

  -- and one that it hasn't
  pub in_tree : (compare : K → K → Ordering) (hashed ks seen : List K) (m : BTreeMap K ℕ) (key : K) (r : Option ℕ) → Indexed same compare hashed m ks → ks ≡ seen → None ≡ position (same key) hashed → r ≡ get compare m key → r ≡ index_of same seen key
  in_tree compare hashed ks seen m key r h s e t = t ∙ ap (λ o. option_or o (get compare m key)) (e ∙ position_from-zero (same key) hashed) ∙ h.1 key ∙ ap (λ us. index_of same us key) s

  -- a key that is there adds nothing
  pub kept : (ks : List K) (key : K) (j : ℕ) → index_of same ks key ≡ Some j → ks ≡ with_key same ks key
  kept ks key j h = ap (λ b. if b then ks else ks ++ key ∷ []) (sym (there (same key) 0 j ks h))

  -- and another goes behind the others
  pub grown : (ks new : List K) (key : K) → index_of same ks key ≡ None → new ≡ ks ++ key ∷ [] → new ≡ with_key same ks key
  grown ks new key h n = n ∙ ap (λ b. if b then ks else ks ++ key ∷ []) (sym (absent (same key) 0 ks h))

  module _ (laws : IsEquivalence same) where
    from_more : (i : ℕ) (ks : List K) (key q : K) → position_from (same key) i ks ≡ None
        → position_from (same q) i (ks ++ key ∷ []) ≡ cond (same key q) (Some (i + length ks)) (position_from (same q) i ks)
    from_more i [] key q h = ap (λ b. cond b (Some i) None) (laws.symm q key) ∙ ap (λ n. cond (same key q) (Some n) None) (omega arith)
    from_more i (x ∷ ks) key q h = by_tests (same key x) refl h (same q x) refl (same key q) refl (from_more (i + 1) ks key q)
      where
        by_tests : (a : Bool) → same key x ≡ a → cond a (Some i) (position_from (same key) (i + 1) ks) ≡ None → (b : Bool) → same q x ≡ b → (c : Bool) → same key q ≡ c
            → (position_from (same key) (i + 1) ks ≡ None → position_from (same q) (i + 1) (ks ++ key ∷ []) ≡ cond (same key q) (Some (i + 1 + length ks)) (position_from (same q) (i + 1) ks))
            → cond b (Some i) (position_from (same q) (i + 1) (ks ++ key ∷ [])) ≡ cond c (Some (i + suc (length ks))) (cond b (Some i) (position_from (same q) (i + 1) ks))
        by_tests true e n b f c g rest = absurd cc
        by_tests false e n true f true g rest = let k : same key x ≡ same q x = laws.congr key q x g in absurd cc
        by_tests false e n true f false g rest = refl
        by_tests false e n false f c g rest =
            rest n ∙ ap (λ b. cond b (Some (i + 1 + length ks)) (position_from (same q) (i + 1) ks)) g
            ∙ ap (λ m. cond c (Some m) (position_from (same q) (i + 1) ks)) (omega arith)

    alike : (i : ℕ) (ks : List K) (q r : K) → same q r ≡ true → position_from (same q) i ks ≡ position_from (same r) i ks
    alike i [] q r h = refl
    alike i (x ∷ ks) q r h = λ j. cond (laws.congr q r x h j) (Some i) (alike (i + 1) ks q r h j)

    -- the index of a key that is the same as one of which the index is known
    pub beside : (ks : List K) (i : ℕ) (other key : K) → ((j : ℕ) (k : K) → slice_get ks j ≡ Some k → index_of same ks k ≡ Some j) → slice_get ks i ≡ Some other → true ≡ same other key → Some i ≡ index_of same ks key
    beside ks i other key once at e = sym (once i other at) ∙ alike 0 ks other key (sym e)

    -- the index of the last key
    pub last : (ks new : List K) (key : K) (index : ℕ) → index ≡ length ks → index_of same ks key ≡ None → new ≡ ks ++ key ∷ [] → index_of same new key ≡ Some index
    last ks new key index l h n =
        ap (λ us. index_of same us key) n ∙ from_more 0 ks key key h ∙ ap (λ b. cond b (Some (0 + length ks)) (index_of same ks key)) (laws.refl key)
        ∙ ap (λ m. Some m) (omega (arith, l))

    -- a key of the list, or the last one
    at_more : (ks : List K) (key k : K) (i : ℕ) → slice_get (ks ++ key ∷ []) i ≡ Some k → (slice_get ks i ≡ Some k) ⊎ ((i ≡ length ks) × (key ≡ k))
    at_more [] key k zero h = inr (refl, cc)
    at_more [] key k (suc i) h = absurd cc
    at_more (x ∷ ks) key k zero h = inl h
    at_more (x ∷ ks) key k (suc i) h = elim (at_more ks key k i h) [ inl e ↦ inl e | inr e ↦ inr (ap suc e.0, e.1) ]

    once_more : (ks : List K) (key : K) → index_of same ks key ≡ None → ((i : ℕ) (k : K) → slice_get ks i ≡ Some k → index_of same ks k ≡ Some i) → (i : ℕ) (k : K) → slice_get (ks ++ key ∷ []) i ≡ Some k → index_of same (ks ++ key ∷ []) k ≡ Some i
    once_more ks key a once i k h = by_index (at_more ks key k i h)
      where
        old : (b : Bool) → same key k ≡ b → index_of same ks k ≡ Some i → index_of same (ks ++ key ∷ []) k ≡ Some i
        old true e o = let p : index_of same ks key ≡ index_of same ks k = alike 0 ks key k e in absurd cc
        old false e o = from_more 0 ks key k a ∙ ap (λ b. cond b (Some (0 + length ks)) (index_of same ks k)) e ∙ o

        by_index : (slice_get ks i ≡ Some k) ⊎ ((i ≡ length ks) × (key ≡ k)) → index_of same (ks ++ key ∷ []) k ≡ Some i
        by_index (inl e) = old (same key k) refl (once i k e)
        by_index (inr e) = ap (index_of same (ks ++ key ∷ [])) (sym e.1) ∙ last ks (ks ++ key ∷ []) key i e.0 a refl

    -- one more key in the set, which is looked up before the tree
    found_first : (b : Bool) (i : ℕ) (here there : Option ℕ) → option_or (cond b (Some i) here) there ≡ cond b (Some i) (option_or here there)
    found_first true i here there = refl
    found_first false i here there = refl

    -- and one more in the tree, where the set has none that is the same
    found_then : (b : Bool) (i : ℕ) (here there : Option ℕ) → (b ≡ true → option_or here there ≡ None) → option_or here (cond b (Some i) there) ≡ cond b (Some i) (option_or here there)
    found_then true i None there h = refl
    found_then true i (Some j) there h = let e : Some j ≡ None = h refl in absurd cc
    found_then false i here there h = refl

    module _ (compare : K → K → Ordering) (hashed ks seen new : List K) (m : BTreeMap K ℕ) (key copy : K) (index : ℕ)
        (e : copy ≡ key) (h : Indexed same compare hashed m ks) (s : ks ≡ seen) (l : index ≡ length ks) (none : index_of same seen key ≡ None) (is : new ≡ ks ++ key ∷ []) where
      a : index_of same ks key ≡ None
      a = ap (λ us. index_of same us key) s ∙ none

      once_new : (i : ℕ) (k : K) → slice_get new i ≡ Some k → index_of same new k ≡ Some i
      once_new i k at = ap (λ us. index_of same us k) is ∙ once_more ks key a h.2 i k (ap (λ us. slice_get us i) (sym is) ∙ at)

      found_new : (q : K) → cond (same key q) (Some (length ks)) (option_or (index_of same hashed q) (get compare m q)) ≡ index_of same new q
      found_new q =
          ap (λ o. cond (same key q) (Some (length ks)) o) (h.1 q)
          ∙ ap (λ j. cond (same key q) (Some j) (index_of same ks q)) (omega arith)
          ∙ sym (from_more 0 ks key q a)
          ∙ ap (λ us. index_of same us q) (sym is)

      -- the set takes one more key
      pub hashed_more : (grown_set : List K) → index < hashed_keys → grown_set ≡ with_key same hashed copy → Indexed same compare grown_set m new
      hashed_more grown_set small g = (g_is ∙ sym (take_all hashed_keys (ks ++ key ∷ []) (omega (arith, small, l, length-append ks (key ∷ [])))) ∙ ap (take hashed_keys) (sym is), found, once_new)
        where
          all : hashed ≡ ks
          all = h.0 ∙ take_all hashed_keys ks (omega (arith, small, l))

          g_is : grown_set ≡ ks ++ key ∷ []
          g_is = g ∙ (λ i. with_key same (all i) (e i)) ∙ sym (grown ks (ks ++ key ∷ []) key a refl)

          found : (q : K) → option_or (index_of same grown_set q) (get compare m q) ≡ index_of same new q
          found q =
              ap (λ us. option_or (index_of same us q) (get compare m q)) g_is
              ∙ ap (λ o. option_or o (get compare m q)) (from_more 0 ks key q a)
              ∙ ap (λ j. option_or (cond (same key q) (Some j) (index_of same ks q)) (get compare m q)) (omega arith)
              ∙ ap (λ us. option_or (cond (same key q) (Some (length ks)) (index_of same us q)) (get compare m q)) (sym all)
              ∙ found_first (same key q) (length ks) (index_of same hashed q) (get compare m q)
              ∙ found_new q

      -- the tree takes one more key
      pub indexed_more : (n : BTreeMap K ℕ) → ((x y : K) → same x y ≡ is_eq (compare x y)) → hashed_keys ≤ index → Updates compare m n copy (Some index) → Indexed same compare hashed n new
      indexed_more n agree large u = (h.0 ∙ sym (take-append-le hashed_keys ks (key ∷ []) (omega (arith, large, l))) ∙ ap (take hashed_keys) (sym is), found, once_new)
        where
          nowhere : (q : K) → same key q ≡ true → option_or (index_of same hashed q) (get compare m q) ≡ None
          nowhere q t = h.1 q ∙ sym (alike 0 ks key q t) ∙ a

          found : (q : K) → option_or (index_of same hashed q) (get compare n q) ≡ index_of same new q
          found q =
              ap (option_or (index_of same hashed q)) (u.0 q)
              ∙ ap (λ b. option_or (index_of same hashed q) (cond b (Some index) (get compare m q))) (sym (agree copy q))
              ∙ (λ i. option_or (index_of same hashed q) (cond (same (e i) q) (Some (l i)) (get compare m q)))
              ∙ found_then (same key q) (length ks) (index_of same hashed q) (get compare m q) (nowhere q)
              ∙ found_new q
