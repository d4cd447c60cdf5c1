-- Types in another order are coerced to the same type, but for the order of fields.
use Rattle.std.proofs.Common.{◌≡◌, refl, sym, ap, subst, ◌∙◌, ℕ, zero, suc, List, [], ◌∷◌, map, Bool, true, false, cond, ◌||◌, ◌&&◌, inl, inr, arith, Option, Some, None, is_some}
use Rattle.arrow_core.specs.declared.types.DataType.{DataType}
use Rattle.arrow_core.specs.declared.types.DataType as data_type
use Rattle.arrow_core.specs.declared.types.Field.{Field}
use Rattle.json_infer.specs.Lists.{Among, EachOnce, SameMembers, total}
use Rattle.std.specs.Str.{bytes_eq}
use Rattle.json_infer.specs.Parts.{same, item_of, fields_of, members_of, nullable, item_name, size_of, sizes}
use Rattle.json_infer.specs.Coercion.{all_names, names_of, types_in, all_types, types_of, all_same, all_structs, are_both, flat, columns, pair, of_two, by_rules, coerce_in, coerce}
use Rattle.json_infer.specs.UpToOrder.{SameUpToOrder, equal, lists, structs}
use Rattle.json_infer.proofs.ListLaws.{and_true, true_and, one_test, among_append, append_among, same_total, distinct_among, distinct_once}
use Rattle.json_infer.proofs.Equality.{exact, exact_name}

-- ---- what stands among names and types

-- a name stands in one of the types
abbrev HasName : List ℕ → List DataType → Type 0
HasName name ts = (t : DataType) × (Among t ts × Among name (map (λ f. f.name) (members_of t)))

abbrev HasType : List ℕ → DataType → List DataType → Type 0
HasType name u ts = (t : DataType) × (Among t ts × Among u (types_in name (members_of t)))

all_names_have : (name : List ℕ) (ts : List DataType) → Among name (all_names ts) → HasName name ts
all_names_have name [] h = absurd h
all_names_have name (t ∷ ts) h = elim (among_append name (map (λ f. f.name) (members_of t)) (all_names ts) h) [
  | inl k ↦ (t, (inl refl, k))
  | inr k ↦ (let r = all_names_have name ts k in (r.0, (inr r.1.0, r.1.1)))
]

have_all_names : (name : List ℕ) (ts : List DataType) (t : DataType) → Among t ts → Among name (map (λ f. f.name) (members_of t)) → Among name (all_names ts)
have_all_names name [] t h k = absurd h
have_all_names name (u ∷ ts) t (inl p) k = append_among name (map (λ f. f.name) (members_of u)) (all_names ts) (inl (subst (λ (v : DataType). Among name (map (λ f. f.name) (members_of v))) (sym p) k))
have_all_names name (u ∷ ts) t (inr h) k = append_among name (map (λ f. f.name) (members_of u)) (all_names ts) (inr (have_all_names name ts t h k))

all_types_have : (name : List ℕ) (u : DataType) (ts : List DataType) → Among u (all_types name ts) → HasType name u ts
all_types_have name u [] h = absurd h
all_types_have name u (t ∷ ts) h = elim (among_append u (types_in name (members_of t)) (all_types name ts) h) [
  | inl k ↦ (t, (inl refl, k))
  | inr k ↦ (let r = all_types_have name u ts k in (r.0, (inr r.1.0, r.1.1)))
]

have_all_types : (name : List ℕ) (u : DataType) (ts : List DataType) (t : DataType) → Among t ts → Among u (types_in name (members_of t)) → Among u (all_types name ts)
have_all_types name u [] t h k = absurd h
have_all_types name u (v ∷ ts) t (inl p) k = append_among u (types_in name (members_of v)) (all_types name ts) (inl (subst (λ (w : DataType). Among u (types_in name (members_of w))) (sym p) k))
have_all_types name u (v ∷ ts) t (inr h) k = append_among u (types_in name (members_of v)) (all_types name ts) (inr (have_all_types name u ts t h k))

-- the names and the types of a name depend on which types there are
names_within : (ts us : List DataType) → ((t : DataType) → Among t ts → Among t us) → (name : List ℕ) → Among name (names_of ts) → Among name (names_of us)
names_within ts us all name h =
    let r = all_names_have name ts ((distinct_among bytes_eq exact_name (all_names ts) name).0 h) in
    (distinct_among bytes_eq exact_name (all_names us) name).1 (have_all_names name us r.0 (all r.0 r.1.0) r.1.1)

types_within : (ts us : List DataType) → ((t : DataType) → Among t ts → Among t us) → (name : List ℕ) (u : DataType) → Among u (types_of name ts) → Among u (types_of name us)
types_within ts us all name u h =
    let r = all_types_have name u ts ((distinct_among same exact (all_types name ts) u).0 h) in
    (distinct_among same exact (all_types name us) u).1 (have_all_types name u us r.0 (all r.0 r.1.0) r.1.1)

-- ---- the tests of the rules

pub all_same_is : (t : DataType) (ts : List DataType) → all_same t ts ≡ true → (u : DataType) → Among u ts → t ≡ u
all_same_is t [] h u k = absurd k
all_same_is t (v ∷ ts) h u (inl p) = (exact t v).0 (and_true (same t v) (all_same t ts) h).0 ∙ p
all_same_is t (v ∷ ts) h u (inr k) = all_same_is t ts (and_true (same t v) (all_same t ts) h).1 u k

pub is_all_same : (t : DataType) (ts : List DataType) → ((u : DataType) → Among u ts → t ≡ u) → all_same t ts ≡ true
is_all_same t [] h = refl
is_all_same t (v ∷ ts) h = true_and (same t v) (all_same t ts) ((exact t v).1 (h v (inl refl))) (is_all_same t ts (λ u k. h u (inr k)))

-- a list of one type holds no other in another order
same_in_both : (t u : DataType) (ts us : List DataType) → SameMembers (t ∷ ts) (u ∷ us) → all_same t ts ≡ true → all_same u us ≡ true
same_in_both t u ts us s h =
    let is_t : (v : DataType) → Among v (t ∷ ts) → t ≡ v = λ v k. elim k [ inl p ↦ p | inr k' ↦ all_same_is t ts h v k' ] in
    is_all_same u us (λ v k. sym (is_t u ((s u).1 (inl refl))) ∙ is_t v ((s v).1 (inr k)))

pub all_structs_is : (ts : List DataType) → all_structs ts ≡ true → (u : DataType) → Among u ts → is_some (fields_of u) ≡ true
all_structs_is [] h u k = absurd k
all_structs_is (v ∷ ts) h u (inl p) = subst (λ (w : DataType). is_some (fields_of w) ≡ true) p (and_true (is_some (fields_of v)) (all_structs ts) h).0
all_structs_is (v ∷ ts) h u (inr k) = all_structs_is ts (and_true (is_some (fields_of v)) (all_structs ts) h).1 u k

pub is_all_structs : (ts : List DataType) → ((u : DataType) → Among u ts → is_some (fields_of u) ≡ true) → all_structs ts ≡ true
is_all_structs [] h = refl
is_all_structs (v ∷ ts) h = true_and (is_some (fields_of v)) (all_structs ts) (h v (inl refl)) (is_all_structs ts (λ u k. h u (inr k)))

structs_in_both : (ts us : List DataType) → SameMembers ts us → all_structs ts ≡ true → all_structs us ≡ true
structs_in_both ts us s h = is_all_structs us (λ u k. all_structs_is ts h u ((s u).1 k))

-- ---- one level

-- what is deeper gives the same, but for the order of fields
abbrev Holds : (List DataType → DataType) → Type 0
Holds deeper = (ts us : List DataType) → EachOnce ts → EachOnce us → SameMembers ts us → SameUpToOrder (deeper ts) (deeper us)

and_turned : (a b : Bool) → (a && b) ≡ (b && a)
and_turned true true = refl
and_turned true false = refl
and_turned false true = refl
and_turned false false = refl

or_turned : (a b : Bool) → (a || b) ≡ (b || a)
or_turned true true = refl
or_turned true false = refl
or_turned false true = refl
or_turned false false = refl

both_turned : (a b t u : DataType) → are_both a b t u ≡ are_both a b u t
both_turned a b t u = or_turned (same t a && same u b) (same t b && same u a)
    ∙ ap (λ (x : Bool). x || (same t a && same u b)) (and_turned (same t b) (same u a))
    ∙ ap (λ (x : Bool). (same u a && same t b) || x) (and_turned (same t a) (same u b))

flat_turned : (t u : DataType) → flat t u ≡ flat u t
flat_turned t u = ap (λ (x : Bool). cond x data_type.Float64 (cond (are_both data_type.Int64 data_type.Boolean t u) data_type.Int64 data_type.Utf8)) (both_turned data_type.Int64 data_type.Float64 t u)
    ∙ ap (λ (x : Bool). cond (are_both data_type.Int64 data_type.Float64 u t) data_type.Float64 (cond x data_type.Int64 data_type.Utf8)) (both_turned data_type.Int64 data_type.Boolean t u)

module _ (deeper : List DataType → DataType) (holds : Holds deeper) where
  -- the fields of a Struct
  mapped_names : (ns : List (List ℕ)) (ts : List DataType) → map (λ f. f.name) (map (λ name. nullable name (deeper (types_of name ts))) ns) ≡ ns
  mapped_names [] ts = refl
  mapped_names (n ∷ ns) ts = ap (λ ms. n ∷ ms) (mapped_names ns ts)

  mapped_type : (ns : List (List ℕ)) (ts : List DataType) (f : Field) → Among f (map (λ name. nullable name (deeper (types_of name ts))) ns) → f.data_type ≡ deeper (types_of f.name ts)
  mapped_type [] ts f h = absurd h
  mapped_type (n ∷ ns) ts f (inl p) = subst (λ (g : Field). g.data_type ≡ deeper (types_of g.name ts)) p refl
  mapped_type (n ∷ ns) ts f (inr h) = mapped_type ns ts f h

  of_structs : (ts us : List DataType) → SameMembers ts us → SameUpToOrder (data_type.Struct (columns deeper ts)) (data_type.Struct (columns deeper us))
  of_structs ts us s =
      let names_t = mapped_names (names_of ts) ts in
      let names_u = mapped_names (names_of us) us in
      structs (columns deeper ts) (columns deeper us)
      (subst (λ (ns : List (List ℕ)). EachOnce ns) (sym names_t) (distinct_once bytes_eq exact_name (all_names ts)))
      (subst (λ (ns : List (List ℕ)). EachOnce ns) (sym names_u) (distinct_once bytes_eq exact_name (all_names us)))
      (subst (λ (ns : List (List ℕ)). SameMembers ns (map (λ g. g.name) (columns deeper us))) (sym names_t)
      (subst (λ (ns : List (List ℕ)). SameMembers (names_of ts) ns) (sym names_u)
      (λ name. (names_within ts us (λ t. (s t).0) name, names_within us ts (λ t. (s t).1) name))))
      (λ f g hf hg p.
      subst (λ (a : DataType). SameUpToOrder a g.data_type) (sym (mapped_type (names_of ts) ts f hf))
      (subst (λ (b : DataType). SameUpToOrder (deeper (types_of f.name ts)) b) (sym (mapped_type (names_of us) us g hg))
      (subst (λ (n : List ℕ). SameUpToOrder (deeper (types_of f.name ts)) (deeper (types_of n us))) p
      (holds (types_of f.name ts) (types_of f.name us) (distinct_once same exact (all_types f.name ts)) (distinct_once same exact (all_types f.name us))
      (λ v. (types_within ts us (λ t. (s t).0) f.name v, types_within us ts (λ t. (s t).1) f.name v))))))

  -- two types, either way round
  of_items : (a b : DataType) (c : Bool) → same a b ≡ c → SameUpToOrder (deeper (a ∷ b ∷ [])) (deeper (b ∷ a ∷ []))
  of_items a b true h = let p : a ≡ b = (exact a b).0 h in
      subst (λ (x : DataType). SameUpToOrder (deeper (a ∷ x ∷ [])) (deeper (x ∷ a ∷ []))) p (equal (deeper (a ∷ a ∷ [])))
  of_items a b false h =
      let ne : a ≡ b → ⊥ = λ p. (let q : same a b ≡ true = (exact a b).1 p in cc) in
      holds (a ∷ b ∷ []) (b ∷ a ∷ []) ((λ k. elim k [ inl p ↦ ne (sym p) | inr e ↦ e ]), ((λ e. e), tt)) ((λ k. elim k [ inl p ↦ ne p | inr e ↦ e ]), ((λ e. e), tt))
      (λ x. (
        (λ k. elim k [ inl p ↦ inr (inl p) | inr k' ↦ elim k' [ inl p ↦ inl p | inr e ↦ absurd e ] ]),
        (λ k. elim k [ inl p ↦ inr (inl p) | inr k' ↦ elim k' [ inl p ↦ inl p | inr e ↦ absurd e ] ]),
      ))

  pair_turned : (x y : Option Field) (t u : DataType) → SameUpToOrder (pair deeper x y t u) (pair deeper y x u t)
  pair_turned (Some f) (Some g) t u = lists (nullable item_name (deeper (f.data_type ∷ g.data_type ∷ []))) (nullable item_name (deeper (g.data_type ∷ f.data_type ∷ []))) (of_items f.data_type g.data_type (same f.data_type g.data_type) refl)
  pair_turned (Some f) None t u = equal (pair deeper (Some f) None t u)
  pair_turned None (Some g) t u = equal (pair deeper None (Some g) t u)
  pair_turned None None t u = subst (λ (v : DataType). SameUpToOrder (flat t u) v) (flat_turned t u) (equal (flat t u))

  -- a pair of distinct types and one of the same types
  of_pairs : (t a u b : DataType) → EachOnce (u ∷ b ∷ []) → SameMembers (t ∷ a ∷ []) (u ∷ b ∷ []) → SameUpToOrder (of_two deeper t (a ∷ [])) (of_two deeper u (b ∷ []))
  of_pairs t a u b once s = elim ((s u).1 (inl refl)) [
    | inl p ↦ elim ((s b).1 (inr (inl refl))) [
      | inl q ↦ absurd (once.0 (inl (sym q ∙ p)))
      | inr k ↦ elim k [ inl q ↦ subst (λ (x : DataType). SameUpToOrder (of_two deeper t (a ∷ [])) (of_two deeper x (b ∷ []))) p (subst (λ (x : DataType). SameUpToOrder (of_two deeper t (a ∷ [])) (of_two deeper t (x ∷ []))) q (equal (of_two deeper t (a ∷ [])))) | inr e ↦ absurd e ]
    ]
    | inr k ↦ elim k [
      | inl p ↦ elim ((s b).1 (inr (inl refl))) [
        | inl q ↦ subst (λ (x : DataType). SameUpToOrder (of_two deeper t (a ∷ [])) (of_two deeper x (b ∷ []))) p (subst (λ (x : DataType). SameUpToOrder (of_two deeper t (a ∷ [])) (of_two deeper a (x ∷ []))) q (pair_turned (item_of t) (item_of a) t a))
        | inr k' ↦ elim k' [ inl q ↦ absurd (once.0 (inl (sym q ∙ p))) | inr e ↦ absurd e ]
      ]
      | inr e ↦ absurd e
    ]
  ]

  counted : List DataType → ℕ
  counted ts = total (λ _. 1) ts

  of_others : (t u : DataType) (ts us : List DataType) → all_same t ts ≡ false → all_same u us ≡ false → EachOnce (t ∷ ts) → EachOnce (u ∷ us) → SameMembers (t ∷ ts) (u ∷ us) → SameUpToOrder (of_two deeper t ts) (of_two deeper u us)
  of_others t u [] us h k a b s = cc
  of_others t u ts [] h k a b s = cc
  of_others t u (v ∷ []) (w ∷ []) h k a b s = of_pairs t v u w b s
  of_others t u (v ∷ []) (w ∷ x ∷ us) h k a b s = let e : total (λ (_ : DataType). 1) (t ∷ v ∷ []) ≡ total (λ (_ : DataType). 1) (u ∷ w ∷ x ∷ us) = same_total (λ _. 1) (t ∷ v ∷ []) (u ∷ w ∷ x ∷ us) a b s in absurd (omega arith)
  of_others t u (v ∷ x ∷ ts) (w ∷ []) h k a b s = let e : total (λ (_ : DataType). 1) (t ∷ v ∷ x ∷ ts) ≡ total (λ (_ : DataType). 1) (u ∷ w ∷ []) = same_total (λ _. 1) (t ∷ v ∷ x ∷ ts) (u ∷ w ∷ []) a b s in absurd (omega arith)
  of_others t u (v ∷ x ∷ ts) (w ∷ y ∷ us) h k a b s = equal data_type.Utf8

  -- the branches, by the answers of the two tests, which are the same on both sides
  branches : (t u : DataType) (ts us : List DataType) (x y : Bool) → all_same t ts ≡ x → all_same u us ≡ x → all_structs (t ∷ ts) ≡ y → EachOnce (t ∷ ts) → EachOnce (u ∷ us) → SameMembers (t ∷ ts) (u ∷ us)
      → SameUpToOrder (cond x t (cond y (data_type.Struct (columns deeper (t ∷ ts))) (of_two deeper t ts))) (cond x u (cond y (data_type.Struct (columns deeper (u ∷ us))) (of_two deeper u us)))
  branches t u ts us true y h k m a b s =
      let p : t ≡ u = elim ((s u).1 (inl refl)) [ inl q ↦ q | inr j ↦ all_same_is t ts h u j ] in
      subst (λ (v : DataType). SameUpToOrder t v) p (equal t)
  branches t u ts us false true h k m a b s = of_structs (t ∷ ts) (u ∷ us) s
  branches t u ts us false false h k m a b s = of_others t u ts us h k a b s

  by_rules_hold : Holds (by_rules deeper)
  by_rules_hold [] [] a b s = equal data_type.Null
  by_rules_hold [] (u ∷ us) a b s = absurd ((s u).1 (inl refl))
  by_rules_hold (t ∷ ts) [] a b s = absurd ((s t).0 (inl refl))
  by_rules_hold (t ∷ ts) (u ∷ us) a b s =
      let back : SameMembers (u ∷ us) (t ∷ ts) = λ x. ((s x).1, (s x).0) in
      let p : all_same t ts ≡ all_same u us = one_test (all_same t ts) (all_same u us) (same_in_both t u ts us s) (same_in_both u t us ts back) in
      let q : all_structs (t ∷ ts) ≡ all_structs (u ∷ us) = one_test (all_structs (t ∷ ts)) (all_structs (u ∷ us)) (structs_in_both (t ∷ ts) (u ∷ us) s) (structs_in_both (u ∷ us) (t ∷ ts) back) in
      let h = branches t u ts us (all_same t ts) (all_structs (t ∷ ts)) refl (sym p) refl a b s in
      subst (λ (x : Bool). SameUpToOrder (by_rules deeper (t ∷ ts)) (cond x u (cond (all_structs (u ∷ us)) (data_type.Struct (columns deeper (u ∷ us))) (of_two deeper u us)))) p
      (subst (λ (y : Bool). SameUpToOrder (by_rules deeper (t ∷ ts)) (cond (all_same t ts) u (cond y (data_type.Struct (columns deeper (u ∷ us))) (of_two deeper u us)))) q h)

coerce_in_holds : (n : ℕ) → Holds (coerce_in n)
coerce_in_holds zero = λ ts us a b s. equal data_type.Null
coerce_in_holds (suc n) = by_rules_hold (coerce_in n) (coerce_in_holds n)

pub any_order : (ts us : List DataType) → EachOnce ts → EachOnce us → SameMembers ts us → SameUpToOrder (coerce ts) (coerce us)
unfolding coerce
any_order ts us a b s =
    let e : sizes ts ≡ sizes us = same_total size_of ts us a b s in
    subst (λ (n : ℕ). SameUpToOrder (coerce_in (suc (sizes ts)) ts) (coerce_in (suc n) us)) e (coerce_in_holds (suc (sizes ts)) ts us a b s)
