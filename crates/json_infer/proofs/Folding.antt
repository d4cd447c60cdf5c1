-- How often a type stands among the types plays no part in names and types of members.
use Rattle.std.proofs.Common.{◌≡◌, refl, sym, ap, subst, ◌∙◌, ℕ, List, [], ◌∷◌, ◌++◌, append_assoc, map, Bool, true, false, cond, inl, inr, ◌↔◌}
use Rattle.arrow_core.specs.declared.types.DataType.{DataType}
use Rattle.std.specs.List.{list_any}
use Rattle.std.specs.Str.{bytes_eq}
use Rattle.json_infer.specs.Lists.{with_one, with_all, distinct, Among}
use Rattle.json_infer.specs.Parts.{same, members_of}
use Rattle.json_infer.specs.Coercion.{all_names, names_of, types_in, all_types, types_of}
use Rattle.json_infer.proofs.ListLaws.{has_among, among_has, append_among, with_all_among}
use Rattle.json_infer.proofs.Equality.{exact, exact_name}

abbrev cat : {A B : Type 0} → (A → List B) → List A → List B
cat g [] = []
cat g (x ∷ xs) = g x ++ cat g xs

pub cat_append : {A B : Type 0} (g : A → List B) (xs ys : List A) → cat g (xs ++ ys) ≡ cat g xs ++ cat g ys
cat_append g [] ys = refl
cat_append g (x ∷ xs) ys = ap (λ zs. g x ++ zs) (cat_append g xs ys) ∙ sym (append_assoc (g x) (cat g xs) (cat g ys))

pub nothing_after : {A : Type 0} (xs : List A) → xs ++ [] ≡ xs
nothing_after [] = refl
nothing_after (x ∷ xs) = ap (λ ys. x ∷ ys) (nothing_after xs)

among_cat : {A B : Type 0} (g : A → List B) (xs : List A) (x : A) (b : B) → Among x xs → Among b (g x) → Among b (cat g xs)
among_cat g [] x b h k = absurd h
among_cat g (y ∷ xs) x b (inl p) k = append_among b (g y) (cat g xs) (inl (subst (λ z. Among b (g z)) (sym p) k))
among_cat g (y ∷ xs) x b (inr h) k = append_among b (g y) (cat g xs) (inr (among_cat g xs x b h k))

pub with_all_append : {A : Type 0} (alike : A → A → Bool) (ys xs zs : List A) → with_all alike ys (xs ++ zs) ≡ with_all alike (with_all alike ys xs) zs
with_all_append alike ys [] zs = refl
with_all_append alike ys (x ∷ xs) zs = with_all_append alike (with_one alike ys x) xs zs

module _ {B : Type 0} (alike : B → B → Bool) (same_B : (x y : B) → (alike x y ≡ true) ↔ (x ≡ y)) where
  pub absorbed : (ys bs : List B) → ((b : B) → Among b bs → Among b ys) → with_all alike ys bs ≡ ys
  absorbed ys [] h = refl
  absorbed ys (b ∷ bs) h =
      let e : with_one alike ys b ≡ ys = ap (λ (c : Bool). cond c ys (ys ++ (b ∷ []))) (among_has alike same_B ys b (h b (inl refl))) in
      ap (λ zs. with_all alike zs bs) e ∙ absorbed ys bs (λ c k. h c (inr k))

  module _ {A : Type 0} (g : A → List B) (test : A → A → Bool) (same_A : (x y : A) → (test x y ≡ true) ↔ (x ≡ y)) where
    one_step : (b : Bool) (zs : List A) (x : A) → (b ≡ true → Among x zs) → with_all alike [] (cat g (cond b zs (zs ++ (x ∷ [])))) ≡ with_all alike (with_all alike [] (cat g zs)) (g x)
    one_step true zs x h = sym (absorbed (with_all alike [] (cat g zs)) (g x) (λ b k. (with_all_among alike same_B [] (cat g zs) b).1 (inr (among_cat g zs x b (h refl) k))))
    one_step false zs x h = ap (with_all alike []) (cat_append g zs (x ∷ []) ∙ ap (λ ws. cat g zs ++ ws) (nothing_after (g x))) ∙ with_all_append alike [] (cat g zs) (g x)

    each_once : (zs xs : List A) → with_all alike [] (cat g (with_all test zs xs)) ≡ with_all alike (with_all alike [] (cat g zs)) (cat g xs)
    each_once zs [] = refl
    each_once zs (x ∷ xs) = each_once (with_one test zs x) xs
        ∙ ap (λ ws. with_all alike ws (cat g xs)) (one_step (list_any (test x) zs) zs x (has_among test same_A zs x))
        ∙ sym (with_all_append alike (with_all alike [] (cat g zs)) (g x) (cat g xs))

names_cat : (ts : List DataType) → all_names ts ≡ cat (λ t. map (λ f. f.name) (members_of t)) ts
names_cat [] = refl
names_cat (t ∷ ts) = ap (λ ns. map (λ f. f.name) (members_of t) ++ ns) (names_cat ts)

types_cat : (name : List ℕ) (ts : List DataType) → all_types name ts ≡ cat (λ t. types_in name (members_of t)) ts
types_cat name [] = refl
types_cat name (t ∷ ts) = ap (λ us. types_in name (members_of t) ++ us) (types_cat name ts)

pub same_names : (ts : List DataType) → names_of (distinct same ts) ≡ names_of ts
same_names ts = ap (distinct bytes_eq) (names_cat (distinct same ts)) ∙ each_once bytes_eq exact_name (λ t. map (λ f. f.name) (members_of t)) same exact [] ts ∙ sym (ap (distinct bytes_eq) (names_cat ts))

pub same_types : (name : List ℕ) (ts : List DataType) → types_of name (distinct same ts) ≡ types_of name ts
same_types name ts = ap (distinct same) (types_cat name (distinct same ts)) ∙ each_once same exact (λ t. types_in name (members_of t)) same exact [] ts ∙ sym (ap (distinct same) (types_cat name ts))

-- the items of a list in which each stands once are its distinct items
single : {A : Type 0} (xs : List A) → cat (λ x. x ∷ []) xs ≡ xs
single [] = refl
single (x ∷ xs) = ap (λ ys. x ∷ ys) (single xs)

pub distinct_twice : (ts : List DataType) → distinct same (distinct same ts) ≡ distinct same ts
distinct_twice ts = ap (distinct same) (sym (single (distinct same ts))) ∙ each_once same exact (λ t. t ∷ []) same exact [] ts ∙ ap (distinct same) (single ts)
