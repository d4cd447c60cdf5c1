-- What is kept of the types that came tells the coercion of the distinct ones.
use Rattle.std.proofs.Common.{◌≡◌, refl, sym, ap, subst, ◌∙◌, ℕ, ◌+◌, ◌≤◌, length, List, [], ◌∷◌, ◌++◌, append_assoc, map, Bool, true, false, cond, ◌||◌, ◌&&◌, inl, arith, is_some}
use Rattle.arrow_core.specs.declared.types.DataType.{DataType}
use Rattle.arrow_core.specs.declared.types.DataType as data_type
use Rattle.arrow_core.specs.declared.types.Field.{Field}
use Rattle.std.specs.List.{list_any}
use Rattle.std.specs.Str.{bytes_eq}
use Rattle.json_infer.specs.declared.seen.Seen.{Seen}
use Rattle.json_infer.specs.declared.seen.Seen.TheVariants as seen
use Rattle.json_infer.specs.Lists.{with_one, with_all, distinct, EachOnce}
use Rattle.json_infer.specs.Parts.{same, fields_of, members_of, nullable}
use Rattle.json_infer.specs.Coercion.{all_names, names_of, types_in, all_types, types_of, all_same, all_structs, columns, coerce}
use Rattle.json_infer.specs.Columns.{Column, with_fields, coerced_columns}
use Rattle.json_infer.specs.Seen.{more, seen_after, result_of}
use Rattle.json_infer.proofs.Grouping.{with_fields-append, coerced-grouped, map_append, types_in_append}
use Rattle.json_infer.proofs.ListLaws.{has_among, distinct_once}
use Rattle.json_infer.proofs.Equality.{exact}
use Rattle.json_infer.proofs.AnyOrder.{all_structs_is}
use Rattle.json_infer.proofs.Folding.{nothing_after, with_all_append, same_names, same_types}
use Rattle.json_infer.proofs.Turns.{coerce_none, coerce_same, coerce_structs, coerce_others}

-- ---- what the state says of the types that came

pub record FieldsOf (fs : List Field) (ts : List DataType) : Type 0 where
  pub names : distinct bytes_eq (map (λ f. f.name) fs) ≡ names_of ts
  pub types : (name : List ℕ) → distinct same (types_in name fs) ≡ types_of name ts

abbrev pub ColumnsOf : List Column → List DataType → Type 0
ColumnsOf cs ts = (fs : List Field) × (cs ≡ with_fields [] fs) × FieldsOf fs ts

abbrev pub Stands : Seen → List DataType → Type 0
Stands seen.Nothing ts = distinct same ts ≡ []
Stands (seen.One a) ts = distinct same ts ≡ a ∷ []
Stands (seen.Two a b) ts = (distinct same ts ≡ a ∷ b ∷ []) × (all_structs (a ∷ b ∷ []) ≡ false)
Stands (seen.Structs cs) ts = (2 ≤ length (distinct same ts)) × (all_structs (distinct same ts) ≡ true) × ColumnsOf cs ts
Stands seen.Many ts = (3 ≤ length (distinct same ts)) × (all_structs (distinct same ts) ≡ false)

-- ---- lists

grown : (ts : List DataType) (t : DataType) → distinct same (ts ++ (t ∷ [])) ≡ with_one same (distinct same ts) t
grown ts t = with_all_append same [] ts (t ∷ [])

all_names_append : (ts us : List DataType) → all_names (ts ++ us) ≡ all_names ts ++ all_names us
all_names_append [] us = refl
all_names_append (t ∷ ts) us = ap (λ ns. map (λ f. f.name) (members_of t) ++ ns) (all_names_append ts us) ∙ sym (append_assoc (map (λ f. f.name) (members_of t)) (all_names ts) (all_names us))

all_types_append : (name : List ℕ) (ts us : List DataType) → all_types name (ts ++ us) ≡ all_types name ts ++ all_types name us
all_types_append name [] us = refl
all_types_append name (t ∷ ts) us = ap (λ vs. types_in name (members_of t) ++ vs) (all_types_append name ts us) ∙ sym (append_assoc (types_in name (members_of t)) (all_types name ts) (all_types name us))

fields_more : (fs : List Field) (ts : List DataType) (t : DataType) → FieldsOf fs ts → FieldsOf (fs ++ members_of t) (ts ++ (t ∷ []))
fields_more fs ts t k = record {
  names = ap (distinct bytes_eq) (map_append (λ f. f.name) fs (members_of t))
      ∙ with_all_append bytes_eq [] (map (λ f. f.name) fs) (map (λ f. f.name) (members_of t))
      ∙ ap (λ ns. with_all bytes_eq ns (map (λ f. f.name) (members_of t))) k.names
      ∙ sym (ap (distinct bytes_eq) (all_names_append ts (t ∷ []) ∙ ap (λ ns. all_names ts ++ ns) (nothing_after (map (λ f. f.name) (members_of t))))
      ∙ with_all_append bytes_eq [] (all_names ts) (map (λ f. f.name) (members_of t)));
  types = λ name. ap (distinct same) (types_in_append name fs (members_of t))
      ∙ with_all_append same [] (types_in name fs) (types_in name (members_of t))
      ∙ ap (λ us. with_all same us (types_in name (members_of t))) (k.types name)
      ∙ sym (ap (distinct same) (all_types_append name ts (t ∷ []) ∙ ap (λ us. all_types name ts ++ us) (nothing_after (types_in name (members_of t))))
      ∙ with_all_append same [] (all_types name ts) (types_in name (members_of t)));
}

columns_more : (cs : List Column) (ts : List DataType) (t : DataType) → ColumnsOf cs ts → ColumnsOf (with_fields cs (members_of t)) (ts ++ (t ∷ []))
columns_more cs ts t k =
    (k.0 ++ members_of t, ap (λ (ds : List Column). with_fields ds (members_of t)) k.1 ∙ with_fields-append [] k.0 (members_of t), fields_more k.0 ts t k.2)

-- the fields of two types
fields_of_two : (a t : DataType) (ts : List DataType) → distinct same ts ≡ a ∷ t ∷ [] → FieldsOf (members_of a ++ members_of t) ts
fields_of_two a t ts e =
    let of_none : FieldsOf [] [] = record { names = refl; types = λ name. refl } in
    let both : FieldsOf (members_of a ++ members_of t) (a ∷ t ∷ []) = fields_more (members_of a) (a ∷ []) t (fields_more [] [] a of_none) in
    record {
      names = both.names ∙ ap names_of (sym e) ∙ same_names ts;
      types = λ name. both.types name ∙ ap (types_of name) (sym e) ∙ same_types name ts;
    }

columns_of_two : (a t : DataType) (ts : List DataType) → distinct same ts ≡ a ∷ t ∷ [] → ColumnsOf (with_fields (with_fields [] (members_of a)) (members_of t)) ts
columns_of_two a t ts e = (members_of a ++ members_of t, with_fields-append [] (members_of a) (members_of t), fields_of_two a t ts e)

pub structs_more : (ts : List DataType) (t : DataType) → all_structs (ts ++ (t ∷ [])) ≡ (all_structs ts && all_structs (t ∷ []))
structs_more [] t = refl
structs_more (u ∷ ts) t = ap (λ (b : Bool). is_some (fields_of u) && b) (structs_more ts t) ∙ and_assoc (is_some (fields_of u)) (all_structs ts) (all_structs (t ∷ []))
  where
    and_assoc : (a b c : Bool) → (a && (b && c)) ≡ ((a && b) && c)
    and_assoc true b c = refl
    and_assoc false b c = refl

pub and_false : (a b : Bool) → a ≡ false → (a && b) ≡ false
and_false true b h = cc
and_false false b h = refl

false_and : (a b : Bool) → b ≡ false → (a && b) ≡ false
false_and true b h = h
false_and false b h = refl

longer : (ts : List DataType) (t : DataType) → length (ts ++ (t ∷ [])) ≡ length ts + 1
longer [] t = refl
longer (u ∷ ts) t = let e = longer ts t in omega arith

-- ---- one type more

after_one : (x y : Bool) (a t : DataType) (ts : List DataType) → same t a ≡ x → all_structs (a ∷ t ∷ []) ≡ y → distinct same ts ≡ a ∷ []
    → Stands (cond x (seen.One a) (cond y (seen.Structs (with_fields (with_fields [] (members_of a)) (members_of t))) (seen.Two a t))) (ts ++ (t ∷ []))
after_one true y a t ts h k s =
    grown ts t ∙ ap (λ us. with_one same us t) s ∙ ap (λ (b : Bool). cond (b || false) (a ∷ []) (a ∷ t ∷ [])) h
after_one false true a t ts h k s =
    let e : distinct same (ts ++ (t ∷ [])) ≡ a ∷ t ∷ [] = grown ts t ∙ ap (λ us. with_one same us t) s ∙ ap (λ (b : Bool). cond (b || false) (a ∷ []) (a ∷ t ∷ [])) h in
    let l : length (distinct same (ts ++ (t ∷ []))) ≡ 2 = ap length e in
    (omega arith, ap all_structs e ∙ k, columns_of_two a t (ts ++ (t ∷ [])) e)
after_one false false a t ts h k s =
    (grown ts t ∙ ap (λ us. with_one same us t) s ∙ ap (λ (b : Bool). cond (b || false) (a ∷ []) (a ∷ t ∷ [])) h, k)

or_nothing : (x : Bool) → (x || false) ≡ x
or_nothing true = refl
or_nothing false = refl

after_two : (x : Bool) (a b t : DataType) (ts : List DataType) → (same t a || same t b) ≡ x → distinct same ts ≡ a ∷ b ∷ [] → all_structs (a ∷ b ∷ []) ≡ false
    → Stands (cond x (seen.Two a b) seen.Many) (ts ++ (t ∷ []))
after_two x a b t ts h s k =
    let e : distinct same (ts ++ (t ∷ [])) ≡ cond x (a ∷ b ∷ []) (a ∷ b ∷ t ∷ []) =
    grown ts t ∙ ap (λ us. with_one same us t) s ∙ ap (λ (c : Bool). cond (same t a || c) (a ∷ b ∷ []) (a ∷ b ∷ t ∷ [])) (or_nothing (same t b)) ∙ ap (λ (c : Bool). cond c (a ∷ b ∷ []) (a ∷ b ∷ t ∷ [])) h in
    by_test x e
  where
    by_test : (x : Bool) → distinct same (ts ++ (t ∷ [])) ≡ cond x (a ∷ b ∷ []) (a ∷ b ∷ t ∷ []) → Stands (cond x (seen.Two a b) seen.Many) (ts ++ (t ∷ []))
    by_test true e = (e, k)
    by_test false e = let l : length (distinct same (ts ++ (t ∷ []))) ≡ 3 = ap length e in (omega arith, ap all_structs e ∙ structs_more (a ∷ b ∷ []) t ∙ and_false (all_structs (a ∷ b ∷ [])) (all_structs (t ∷ [])) k)

-- a list with one more type, or not
kept_long : (n : ℕ) (x : Bool) (us : List DataType) (t : DataType) → n ≤ length us → n ≤ length (cond x us (us ++ (t ∷ [])))
kept_long n true us t h = h
kept_long n false us t h = let e = longer us t in omega arith

kept_structs : (x : Bool) (us : List DataType) (t : DataType) → all_structs us ≡ true → all_structs (t ∷ []) ≡ true → all_structs (cond x us (us ++ (t ∷ []))) ≡ true
kept_structs true us t h k = h
kept_structs false us t h k = structs_more us t ∙ ap (λ (b : Bool). b && all_structs (t ∷ [])) h ∙ k

kept_others : (x : Bool) (us : List DataType) (t : DataType) → all_structs us ≡ false → all_structs (cond x us (us ++ (t ∷ []))) ≡ false
kept_others true us t h = h
kept_others false us t h = structs_more us t ∙ and_false (all_structs us) (all_structs (t ∷ [])) h

and_nothing : (x : Bool) → (x && true) ≡ x
and_nothing true = refl
and_nothing false = refl

new_other : (x : Bool) (us : List DataType) (t : DataType) → list_any (same t) us ≡ x → 2 ≤ length us → all_structs us ≡ true → all_structs (t ∷ []) ≡ false
    → (3 ≤ length (cond x us (us ++ (t ∷ [])))) × (all_structs (cond x us (us ++ (t ∷ []))) ≡ false)
new_other true us t h n k m =
    let yes_it_is : (is_some (fields_of t) && true) ≡ true = and_nothing (is_some (fields_of t)) ∙ all_structs_is us k t (has_among same exact us t h) in
    cc_false yes_it_is
  where
    cc_false : (is_some (fields_of t) && true) ≡ true → (3 ≤ length us) × (all_structs us ≡ false)
    cc_false e = let f : true ≡ false = sym e ∙ m in cc
new_other false us t h n k m = (let e = longer us t in omega arith, structs_more us t ∙ false_and (all_structs us) (all_structs (t ∷ [])) m)

after_structs : (y : Bool) (cs : List Column) (t : DataType) (ts : List DataType) → all_structs (t ∷ []) ≡ y → Stands (seen.Structs cs) ts → Stands (cond y (seen.Structs (with_fields cs (members_of t))) seen.Many) (ts ++ (t ∷ []))
after_structs true cs t ts h s = (
  subst (λ (us : List DataType). 2 ≤ length us) (sym (grown ts t)) (kept_long 2 (list_any (same t) (distinct same ts)) (distinct same ts) t s.0),
  ap all_structs (grown ts t) ∙ kept_structs (list_any (same t) (distinct same ts)) (distinct same ts) t s.1 h,
  columns_more cs ts t s.2,
)
after_structs false cs t ts h s =
    let o = new_other (list_any (same t) (distinct same ts)) (distinct same ts) t refl s.0 s.1 h in
    (subst (λ (us : List DataType). 3 ≤ length us) (sym (grown ts t)) o.0, ap all_structs (grown ts t) ∙ o.1)

after_more : (s : Seen) (t : DataType) (ts : List DataType) → Stands s ts → Stands (more s t) (ts ++ (t ∷ []))
after_more seen.Nothing t ts s = grown ts t ∙ ap (λ us. with_one same us t) s
after_more (seen.One a) t ts s = after_one (same t a) (all_structs (a ∷ t ∷ [])) a t ts refl refl s
after_more (seen.Two a b) t ts s = after_two (same t a || same t b) a b t ts refl s.0 s.1
after_more (seen.Structs cs) t ts s = after_structs (all_structs (t ∷ [])) cs t ts refl s
after_more seen.Many t ts s = (
  subst (λ (us : List DataType). 3 ≤ length us) (sym (grown ts t)) (kept_long 3 (list_any (same t) (distinct same ts)) (distinct same ts) t s.0),
  ap all_structs (grown ts t) ∙ kept_others (list_any (same t) (distinct same ts)) (distinct same ts) t s.1,
)

after_all : (s : Seen) (us ts : List DataType) → Stands s ts → Stands (seen_after s us) (ts ++ us)
after_all s [] ts h = subst (λ (vs : List DataType). Stands s vs) (sym (nothing_after ts)) h
after_all s (t ∷ us) ts h = subst (λ (vs : List DataType). Stands (seen_after (more s t) us) vs) (append_assoc ts (t ∷ []) us) (after_all (more s t) us (ts ++ (t ∷ [])) (after_more s t ts h))

-- ---- the result

-- the columns of types that are all Structs
pub coerced_columns_of : (us : List DataType) (cs : List Column) → ColumnsOf cs us → columns coerce us ≡ coerced_columns cs
coerced_columns_of us cs k =
    let by_fields : columns coerce us ≡ map (λ name. nullable name (coerce (distinct same (types_in name k.0)))) (distinct bytes_eq (map (λ f. f.name) k.0)) =
    λ i. map (λ name. nullable name (coerce (sym (k.2.types name) i))) (sym k.2.names i) in
    by_fields ∙ sym (ap coerced_columns k.1 ∙ coerced-grouped k.0)

pub differ : (a b : DataType) (us : List DataType) (x : Bool) → EachOnce (a ∷ b ∷ us) → same a b ≡ x → all_same a (b ∷ us) ≡ false
differ a b us true once h = absurd (once.0 (inl (sym ((exact a b).0 h))))
differ a b us false once h = and_false (same a b) (all_same a us) h

structs_result : (us : List DataType) (cs : List Column) → EachOnce us → 2 ≤ length us → all_structs us ≡ true → ColumnsOf cs us → coerce us ≡ data_type.Struct (coerced_columns cs)
structs_result [] cs once n h k = absurd (omega arith)
structs_result (a ∷ []) cs once n h k = absurd (omega arith)
structs_result (a ∷ b ∷ us) cs once n h k =
    coerce_structs a (b ∷ us) (differ a b us (same a b) once refl) h ∙ ap data_type.Struct (coerced_columns_of (a ∷ b ∷ us) cs k)

many_result : (us : List DataType) → EachOnce us → 3 ≤ length us → all_structs us ≡ false → coerce us ≡ data_type.Utf8
many_result [] once n h = absurd (omega arith)
many_result (a ∷ []) once n h = absurd (omega arith)
many_result (a ∷ b ∷ []) once n h = absurd (omega arith)
many_result (a ∷ b ∷ c ∷ us) once n h = coerce_others a (b ∷ c ∷ us) (differ a b (c ∷ us) (same a b) once refl) h

-- how often a type came plays no part
pub columns_of_distinct : (cs : List Column) (ts : List DataType) → ColumnsOf cs ts → ColumnsOf cs (distinct same ts)
columns_of_distinct cs ts k = (k.0, k.1, record { names = k.2.names ∙ sym (same_names ts); types = λ name. k.2.types name ∙ sym (same_types name ts) })

pub stands_result : (s : Seen) (ts : List DataType) → Stands s ts → coerce (distinct same ts) ≡ result_of s
stands_result seen.Nothing ts h = ap coerce h ∙ coerce_none
stands_result (seen.One a) ts h = ap coerce h ∙ coerce_same a [] refl
stands_result (seen.Two a b) ts h =
    let once : EachOnce (a ∷ b ∷ []) = subst (λ (us : List DataType). EachOnce us) h.0 (distinct_once same exact ts) in
    ap coerce h.0 ∙ coerce_others a (b ∷ []) (differ a b [] (same a b) once refl) h.1
stands_result (seen.Structs cs) ts h =
    structs_result (distinct same ts) cs (distinct_once same exact ts) h.0 h.1 (columns_of_distinct cs ts h.2)
stands_result seen.Many ts h = many_result (distinct same ts) (distinct_once same exact ts) h.0 h.1

pub all_stand : (ts : List DataType) → Stands (seen_after seen.Nothing ts) ts
all_stand ts = after_all seen.Nothing ts [] refl

pub one_at_a_time : (ts : List DataType) → coerce (distinct same ts) ≡ result_of (seen_after seen.Nothing ts)
one_at_a_time ts = stands_result (seen_after seen.Nothing ts) ts (all_stand ts)
