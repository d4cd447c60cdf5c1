-- Fields grouped by name: each name with its distinct types.
use Rattle.std.proofs.Common.{◌≡◌, refl, sym, ap, subst, ◌∙◌, ℕ, ◌+◌, ◌≤◌, List, [], ◌∷◌, ◌++◌, append_assoc, map, Bool, true, false, cond, ◌||◌, inl, inr, arith}
use Rattle.std.specs.List.{list_any}
use Rattle.std.specs.Str.{bytes_eq}
use Rattle.arrow_core.specs.declared.types.DataType.{DataType}
use Rattle.arrow_core.specs.declared.types.Field.{Field}
use Rattle.json_infer.specs.Lists.{with_one, with_all, distinct, EachOnce, Among, total}
use Rattle.json_infer.specs.Parts.{same, nullable, size_of}
use Rattle.json_infer.specs.Coercion.{types_in, coerce}
use Rattle.json_infer.specs.Columns.{Column, with_type, with_fields, coerced_columns, column_sizes}
use Rattle.json_infer.proofs.Equality.{exact_name}
use Rattle.json_infer.proofs.ListLaws.{has_among, among_has, distinct_among, distinct_once}
use Rattle.json_infer.proofs.Folding.{with_all_append, distinct_twice, nothing_after}
use Rattle.json_infer.proofs.Sizes.{with_one_below}

pub with_fields-append : (cs : List Column) (fs gs : List Field) → with_fields (with_fields cs fs) gs ≡ with_fields cs (fs ++ gs)
with_fields-append cs [] gs = refl
with_fields-append cs (f ∷ fs) gs = with_fields-append (with_type cs f.name f.data_type) fs gs

-- ---- one field more

-- these names, each with its types by a table
abbrev pub table : (List ℕ → List DataType) → List (List ℕ) → List Column
table types ns = map (λ n. (n, types n)) ns

-- the table with one more type of a name
abbrev put : (List ℕ → List DataType) → List ℕ → DataType → List ℕ → List DataType
put types name t n = cond (bytes_eq name n) (with_one same (types n) t) (types n)

-- names that aren't this one keep their types
others_stay : (types : List ℕ → List DataType) (name : List ℕ) (t : DataType) (ns : List (List ℕ)) → list_any (bytes_eq name) ns ≡ false → table types ns ≡ table (put types name t) ns
others_stay types name t [] h = refl
others_stay types name t (n ∷ ns) h =
    let k = or_false (bytes_eq name n) (list_any (bytes_eq name) ns) h in
    λ i. (n, cond (sym k.0 i) (with_one same (types n) t) (types n)) ∷ others_stay types name t ns k.1 i
  where
    or_false : (a b : Bool) → (a || b) ≡ false → (a ≡ false) × (b ≡ false)
    or_false true b h = cc
    or_false false b h = (refl, h)

name_absent : (n : List ℕ) (ns : List (List ℕ)) (name : List ℕ) → bytes_eq name n ≡ true → (Among n ns → ⊥) → (b : Bool) → list_any (bytes_eq name) ns ≡ b → list_any (bytes_eq name) ns ≡ false
name_absent n ns name e h true p = absurd (h (subst (λ (m : List ℕ). Among m ns) ((exact_name name n).0 e) (has_among bytes_eq exact_name ns name p)))
name_absent n ns name e h false p = p

present_first : (types : List ℕ → List DataType) (name : List ℕ) (t : DataType) (n : List ℕ) (ns : List (List ℕ)) → (Among n ns → ⊥) → (list_any (bytes_eq name) ns ≡ true → with_type (table types ns) name t ≡ table (put types name t) ns)
    → (b : Bool) → bytes_eq name n ≡ b → (bytes_eq name n || list_any (bytes_eq name) ns) ≡ true → with_type (table types (n ∷ ns)) name t ≡ table (put types name t) (n ∷ ns)
present_first types name t n ns once later true e h =
    let rest = others_stay types name t ns (name_absent n ns name e once (list_any (bytes_eq name) ns) refl) in
    ap (λ (c : Bool). cond c ((n, with_one same (types n) t) ∷ table types ns) ((n, types n) ∷ with_type (table types ns) name t)) e
    ∙ λ i. (n, cond (sym e i) (with_one same (types n) t) (types n)) ∷ rest i
present_first types name t n ns once later false e h =
    let rest = later (sym (ap (λ (c : Bool). c || list_any (bytes_eq name) ns) e) ∙ h) in
    ap (λ (c : Bool). cond c ((n, with_one same (types n) t) ∷ table types ns) ((n, types n) ∷ with_type (table types ns) name t)) e
    ∙ λ i. (n, cond (sym e i) (with_one same (types n) t) (types n)) ∷ rest i

present : (types : List ℕ → List DataType) (name : List ℕ) (t : DataType) (ns : List (List ℕ)) → EachOnce ns → list_any (bytes_eq name) ns ≡ true → with_type (table types ns) name t ≡ table (put types name t) ns
present types name t [] once h = cc
present types name t (n ∷ ns) once h = present_first types name t n ns once.0 (present types name t ns once.1) (bytes_eq name n) refl h

absent_first : (types : List ℕ → List DataType) (name : List ℕ) (t : DataType) (n : List ℕ) (ns : List (List ℕ)) → (list_any (bytes_eq name) ns ≡ false → with_type (table types ns) name t ≡ table (put types name t) (ns ++ (name ∷ [])))
    → (b : Bool) → bytes_eq name n ≡ b → (bytes_eq name n || list_any (bytes_eq name) ns) ≡ false → with_type (table types (n ∷ ns)) name t ≡ table (put types name t) ((n ∷ ns) ++ (name ∷ []))
absent_first types name t n ns later true e h = let p : true ≡ false = sym (ap (λ (c : Bool). c || list_any (bytes_eq name) ns) e) ∙ h in cc
absent_first types name t n ns later false e h =
    let rest = later (sym (ap (λ (c : Bool). c || list_any (bytes_eq name) ns) e) ∙ h) in
    ap (λ (c : Bool). cond c ((n, with_one same (types n) t) ∷ table types ns) ((n, types n) ∷ with_type (table types ns) name t)) e
    ∙ λ i. (n, cond (sym e i) (with_one same (types n) t) (types n)) ∷ rest i

absent : (types : List ℕ → List DataType) (name : List ℕ) (t : DataType) (ns : List (List ℕ)) → types name ≡ [] → list_any (bytes_eq name) ns ≡ false → with_type (table types ns) name t ≡ table (put types name t) (ns ++ (name ∷ []))
absent types name t [] none h =
    let e : bytes_eq name name ≡ true = (exact_name name name).1 refl in
    λ i. (name, cond (sym e i) (with_one same (sym none i) t) (types name)) ∷ []
absent types name t (n ∷ ns) none h = absent_first types name t n ns (absent types name t ns none) (bytes_eq name n) refl h

one_more : (types : List ℕ → List DataType) (name : List ℕ) (t : DataType) (ns : List (List ℕ)) → EachOnce ns → (list_any (bytes_eq name) ns ≡ false → types name ≡ []) → (b : Bool) → list_any (bytes_eq name) ns ≡ b
    → with_type (table types ns) name t ≡ table (put types name t) (cond b ns (ns ++ (name ∷ [])))
one_more types name t ns once none true h = present types name t ns once h
one_more types name t ns once none false h = absent types name t ns (none h) h

-- ---- all fields

abbrev pub names : List Field → List (List ℕ)
names fs = map (λ f. f.name) fs

pub map_append : {A B : Type 0} (f : A → B) (xs ys : List A) → map f (xs ++ ys) ≡ map f xs ++ map f ys
map_append f [] ys = refl
map_append f (x ∷ xs) ys = ap (λ zs. f x ∷ zs) (map_append f xs ys)

types_in_one : (b : Bool) (t : DataType) (us vs : List DataType) → cond b (t ∷ (us ++ vs)) (us ++ vs) ≡ cond b (t ∷ us) us ++ vs
types_in_one true t us vs = refl
types_in_one false t us vs = refl

pub types_in_append : (name : List ℕ) (fs gs : List Field) → types_in name (fs ++ gs) ≡ types_in name fs ++ types_in name gs
types_in_append name [] gs = refl
types_in_append name (f ∷ fs) gs = ap (λ us. cond (bytes_eq f.name name) (f.data_type ∷ us) us) (types_in_append name fs gs) ∙ types_in_one (bytes_eq f.name name) f.data_type (types_in name fs) (types_in name gs)

none_first : (b : Bool) (name : List ℕ) (f : Field) (fs : List Field) → bytes_eq f.name name ≡ b → (Among name (names (f ∷ fs)) → ⊥) → types_in name fs ≡ [] → types_in name (f ∷ fs) ≡ []
none_first true name f fs e h k = absurd (h (inl ((exact_name f.name name).0 e)))
none_first false name f fs e h k = ap (λ (c : Bool). cond c (f.data_type ∷ types_in name fs) (types_in name fs)) e ∙ k

none_in : (name : List ℕ) (fs : List Field) → (Among name (names fs) → ⊥) → types_in name fs ≡ []
none_in name [] h = refl
none_in name (f ∷ fs) h = none_first (bytes_eq f.name name) name f fs refl h (none_in name fs (λ k. h (inr k)))

none_before : (name : List ℕ) (fs : List Field) → list_any (bytes_eq name) (distinct bytes_eq (names fs)) ≡ false → distinct same (types_in name fs) ≡ []
none_before name fs h = ap (distinct same) (none_in name fs (λ k. absurd_at (among_has bytes_eq exact_name (distinct bytes_eq (names fs)) name ((distinct_among bytes_eq exact_name (names fs) name).1 k))))
  where
    absurd_at : list_any (bytes_eq name) (distinct bytes_eq (names fs)) ≡ true → ⊥
    absurd_at p = let q : true ≡ false = sym p ∙ h in cc

types_more : (n : List ℕ) (done : List Field) (f : Field) → put (λ m. distinct same (types_in m done)) f.name f.data_type n ≡ distinct same (types_in n (done ++ (f ∷ [])))
types_more n done f = by_name (bytes_eq f.name n) ∙ sym (ap (distinct same) (types_in_append n done (f ∷ [])) ∙ with_all_append same [] (types_in n done) (types_in n (f ∷ [])))
  where
    by_name : (b : Bool) → cond b (with_one same (distinct same (types_in n done)) f.data_type) (distinct same (types_in n done)) ≡ with_all same (distinct same (types_in n done)) (cond b (f.data_type ∷ []) [])
    by_name true = refl
    by_name false = refl

names_more : (done : List Field) (f : Field) → with_one bytes_eq (distinct bytes_eq (names done)) f.name ≡ distinct bytes_eq (names (done ++ (f ∷ [])))
names_more done f = sym (ap (distinct bytes_eq) (map_append (λ g. g.name) done (f ∷ [])) ∙ with_all_append bytes_eq [] (names done) (f.name ∷ []))

field_more : (done : List Field) (f : Field)
    → with_type (table (λ n. distinct same (types_in n done)) (distinct bytes_eq (names done))) f.name f.data_type
    ≡ table (λ n. distinct same (types_in n (done ++ (f ∷ [])))) (distinct bytes_eq (names (done ++ (f ∷ []))))
field_more done f =
    one_more (λ n. distinct same (types_in n done)) f.name f.data_type (distinct bytes_eq (names done)) (distinct_once bytes_eq exact_name (names done)) (none_before f.name done) (list_any (bytes_eq f.name) (distinct bytes_eq (names done))) refl
    ∙ λ i. map (λ n. (n, types_more n done f i)) (names_more done f i)

grouped_after : (done fs : List Field)
    → with_fields (table (λ n. distinct same (types_in n done)) (distinct bytes_eq (names done))) fs
    ≡ table (λ n. distinct same (types_in n (done ++ fs))) (distinct bytes_eq (names (done ++ fs)))
grouped_after done [] = ap (λ (gs : List Field). table (λ n. distinct same (types_in n gs)) (distinct bytes_eq (names gs))) (sym (nothing_after done))
grouped_after done (f ∷ fs) =
    ap (λ cs. with_fields cs fs) (field_more done f) ∙ grouped_after (done ++ (f ∷ [])) fs
    ∙ ap (λ (gs : List Field). table (λ n. distinct same (types_in n gs)) (distinct bytes_eq (names gs))) (append_assoc done (f ∷ []) fs)

pub grouped : (fs : List Field) → with_fields [] fs ≡ table (λ n. distinct same (types_in n fs)) (distinct bytes_eq (names fs))
grouped fs = grouped_after [] fs

coerced_table : (types : List ℕ → List DataType) (ns : List (List ℕ)) → coerced_columns (table types ns) ≡ map (λ n. nullable n (coerce (distinct same (types n)))) ns
coerced_table types [] = refl
coerced_table types (n ∷ ns) = ap (λ fs. nullable n (coerce (distinct same (types n))) ∷ fs) (coerced_table types ns)

pub coerced-grouped : (fs : List Field) → coerced_columns (with_fields [] fs) ≡ map (λ name. nullable name (coerce (distinct same (types_in name fs)))) (distinct bytes_eq (map (λ f. f.name) fs))
coerced-grouped fs =
    ap coerced_columns (grouped fs) ∙ coerced_table (λ n. distinct same (types_in n fs)) (distinct bytes_eq (names fs))
    ∙ λ i. map (λ n. nullable n (coerce (distinct_twice (types_in n fs) i))) (distinct bytes_eq (names fs))

-- ---- sizes

first_fits : (b : Bool) (c : Column) (cs ds : List Column) (t : DataType) → column_sizes ds ≤ column_sizes cs + size_of t → column_sizes (cond b ((c.0, with_one same c.1 t) ∷ cs) (c ∷ ds)) ≤ column_sizes (c ∷ cs) + size_of t
first_fits true c cs ds t h = let e = with_one_below size_of (list_any (same t) c.1) c.1 t in omega arith
first_fits false c cs ds t h = omega arith

type_fits : (cs : List Column) (name : List ℕ) (t : DataType) → column_sizes (with_type cs name t) ≤ column_sizes cs + size_of t
type_fits [] name t = omega arith
type_fits (c ∷ cs) name t = first_fits (bytes_eq name c.0) c cs (with_type cs name t) t (type_fits cs name t)

pub fields_fit : (cs : List Column) (fs : List Field) → column_sizes (with_fields cs fs) ≤ column_sizes cs + total (λ f. size_of f.data_type) fs
fields_fit cs [] = omega arith
fields_fit cs (f ∷ fs) = let e = type_fits cs f.name f.data_type in let g = fields_fit (with_type cs f.name f.data_type) fs in omega arith
