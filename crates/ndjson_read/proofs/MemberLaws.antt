-- The type of an object, by the types of its members as they are read.
use Rattle.std.proofs.Common.{◌≡◌, refl, sym, ap, subst, ◌∙◌, ℕ, zero, suc, ◌+◌, ◌≤◌, length, take, List, [], ◌∷◌, ◌++◌, map, Bool, true, false, cond, ◌||◌, Option, Some, None, inl, inr, ◌⊎◌, arith}
use Rattle.std.proofs.Math.Seq.{take-suc}
use Rattle.std.proofs.lemmas.Bool.{true≢false}
use Rattle.std.proofs.lemmas.Option.{get_or_from_slice_get}
use Rattle.std.specs.Prelude.{slice_get}
use Rattle.std.specs.Str.{bytes_eq}
use Rattle.arrow_core.specs.declared.types.DataType.{DataType, out-DataType}
use Rattle.arrow_core.specs.declared.types.DataType as data_type
use Rattle.arrow_core.specs.declared.types.DataType.TheOpen as layer
use Rattle.arrow_core.specs.declared.types.DataType.TheViews.{outs-Struct}
use Rattle.arrow_core.specs.declared.types.Field.{Field}
use Rattle.json_tree.specs.Layout.{meets, put}
use Rattle.json_tree.specs.Tree.{Json, object}
use Rattle.json_infer.specs.declared.seen.Seen.{Seen}
use Rattle.json_infer.specs.declared.seen.Seen.TheVariants as seen
use Rattle.json_infer.specs.Lists.{Among, with_one}
use Rattle.json_infer.specs.Parts.{same, or_none, members_of, nullable}
use Rattle.json_infer.specs.Coercion.{all_structs}
use Rattle.json_infer.specs.Columns.{Column, types_named, with_type, with_fields}
use Rattle.json_infer.specs.Inferred.{kept_fields, type_of}
use Rattle.json_infer.specs.KeptTypes.{more_kept}
use Rattle.json_infer.specs.RowsSeen.{StandsFor}
use Rattle.json_infer.specs.Seen.{more, of_both}
use Rattle.json_infer.proofs.Equality.{exact, exact_name}
use Rattle.json_infer.proofs.ListLaws.{among_has}
use Rattle.json_infer.proofs.RowLaws.{one_more_row}
use Rattle.json_tree.specs.Reading.{Outcome, found}
use Rattle.ndjson_read.specs.Compared.{Compares, IsKnown, AreKnown, IsNextField, ReadsMember, names_in}
use Rattle.ndjson_read.specs.declared.comparison.Comparison.TheVariants as comparison
use Rattle.ndjson_read.proofs.ObjectTypes.{type_of_object}
use Rattle.ndjson_read.proofs.TypeLaws.{null_is_null, some_is, struct_kept}

abbrev Member : Type 0
Member = List ℕ × Json

abbrev pub typed : List (List ℕ × Json) → List (List ℕ × DataType)
typed members = map (λ m. (m.0, type_of m.1)) members

-- ---- members of known types

pub known_put : (columns : List Column) (members : List (List ℕ × Json)) (name : List ℕ) (v : Json) → AreKnown columns members → IsKnown columns name (type_of v) → AreKnown columns (put members (name, v))
unfolding put
known_put columns [] name v h k = (k, tt)
known_put columns (m ∷ ms) name v h k = at (bytes_eq m.0 name) refl (known_put columns ms name v h.1 k)
  where
    at : (b : Bool) → bytes_eq m.0 name ≡ b → AreKnown columns (put ms (name, v)) → AreKnown columns (cond b ((m.0, v) ∷ ms) (m ∷ put ms (name, v)))
    at true e r = (subst (λ (n : List ℕ). IsKnown columns n (type_of v)) (sym ((exact_name m.0 name).0 e)) k, h.1)
    at false e r = (h.0, r)

with_known : (columns : List Column) (name : List ℕ) (t : DataType) → Among t (types_named name columns) → with_type columns name t ≡ columns
with_known [] name t a = absurd a
with_known (c ∷ cs) name t a = at (bytes_eq name c.0) a (λ h. with_known cs name t h)
  where
    at : (b : Bool) → Among t (cond b c.1 (types_named name cs)) → (Among t (types_named name cs) → with_type cs name t ≡ cs)
        → cond b ((c.0, with_one same c.1 t) ∷ cs) (c ∷ with_type cs name t) ≡ c ∷ cs
    at true h r = ap (λ (ts : List DataType). (c.0, ts) ∷ cs) (ap (λ (b : Bool). cond b c.1 (c.1 ++ t ∷ [])) (among_has same exact c.1 t h))
    at false h r = ap (λ (ds : List Column). c ∷ ds) (r h)

fields_known : (columns : List Column) (members : List (List ℕ × Json)) → AreKnown columns members → with_fields columns (kept_fields (typed members)) ≡ columns
fields_known columns [] h = refl
fields_known columns (m ∷ ms) h = at (same (type_of m.1) data_type.Null) refl (fields_known columns ms h.1)
  where
    at : (b : Bool) → same (type_of m.1) data_type.Null ≡ b → with_fields columns (kept_fields (typed ms)) ≡ columns
        → with_fields columns (cond b (kept_fields (typed ms)) (nullable m.0 (type_of m.1) ∷ kept_fields (typed ms))) ≡ columns
    at true e r = r
    at false e r =
        elim h.0 [
          | inl null ↦ absurd (true≢false (sym null_is_null ∙ ap (λ (t : DataType). same t data_type.Null) (sym null) ∙ e))
          | inr among ↦ ap (λ (cs : List Column). with_fields cs (kept_fields (typed ms))) (with_known columns m.0 (type_of m.1) among) ∙ r
        ]

struct_members : (fs : List Field) → members_of (data_type.Struct fs) ≡ fs
struct_members fs = ap (λ (o : layer.DataType-F DataType Field). or_none (elim o as (λ _. Option (List Field)) [ layer.Struct gs ↦ Some gs | _ ↦ None ])) (outs-Struct fs)

is_struct : (fs : List Field) → all_structs (data_type.Struct fs ∷ []) ≡ true
unfolding out-DataType denote.Hole.Carrier.out
is_struct fs = refl

-- an object whose members are known adds nothing
pub known_adds : (columns : List Column) (members : List (List ℕ × Json)) → AreKnown columns members → more_kept (seen.Structs columns) (type_of (object members)) ≡ seen.Structs columns
known_adds columns members h =
    let fs = kept_fields (typed members) in
    ap (more_kept (seen.Structs columns)) (type_of_object members)
    ∙ ap (λ (b : Bool). cond b (seen.Structs columns) (more (seen.Structs columns) (data_type.Struct fs))) (struct_kept fs)
    ∙ ap (λ (b : Bool). cond b (seen.Structs (with_fields columns (members_of (data_type.Struct fs)))) seen.Many) (is_struct fs)
    ∙ ap (λ (gs : List Field). seen.Structs (with_fields columns gs)) (struct_members fs)
    ∙ ap seen.Structs (fields_known columns members h)

-- a type that came alone adds nothing
pub same_adds : (t u : DataType) → u ≡ t → more_kept (seen.One t) u ≡ seen.One t
same_adds t u e =
    ap (more_kept (seen.One t)) e ∙ at (same t data_type.Null) ∙ refl
  where
    at : (b : Bool) → cond b (seen.One t) (more (seen.One t) t) ≡ seen.One t
    at true = refl
    at false = ap (λ (b : Bool). cond b (seen.One t) (of_both t t)) ((exact t t).1 refl)

pub stands_still : (s : Seen) (rows : List Json) (v : Json) → more_kept s (type_of v) ≡ s → StandsFor s rows → StandsFor s (rows ++ v ∷ [])
stands_still s rows v e k = one_more_row s s rows v (type_of v) refl (sym e) k

-- ---- members that are the fields, one after another

-- a name that is Null is no field's
abbrev pub Clean : List Field → List (List ℕ × Json) → Type 0
Clean fields [] = Unit {0}
Clean fields (m ∷ ms) = (same (type_of m.1) data_type.Null ≡ true → meets m.0 (names_in fields) ≡ false) × Clean fields ms

-- the first fields are those of the members so far
pub record FieldsSoFar (fields : List Field) (index : ℕ) (members : List (List ℕ × Json)) : Type 0 where
  pub within : index ≤ length fields
  pub are : kept_fields (typed members) ≡ take index fields
  pub clean : Clean fields members

pub no_fields : (fields : List Field) → FieldsSoFar fields 0 []
no_fields fields = record { within = omega arith; are = refl; clean = tt }

or_false : (a b : Bool) → (a || b) ≡ false → (a ≡ false) × (b ≡ false)
or_false true b h = absurd (true≢false h)
or_false false b h = (refl, h)

meets_take : (name : List ℕ) (n : ℕ) (fields : List Field) → meets name (names_in fields) ≡ false → meets name (names_in (take n fields)) ≡ false
meets_take name zero fields h = refl
meets_take name (suc n) [] h = refl
meets_take name (suc n) (f ∷ fs) h =
    let p = or_false (bytes_eq name f.name) (meets name (names_in fs)) h in
    rw (p.0) (meets_take name n fs p.1)

meets_at : (name : List ℕ) (t : DataType) (fields : List Field) (n : ℕ) → slice_get fields n ≡ Some (nullable name t) → meets name (names_in fields) ≡ true
meets_at name t [] n h = absurd cc
meets_at name t (f ∷ fs) zero h = rw ((exact_name name f.name).1 (sym (ap (λ (o : Option Field). elim o as (λ _. List ℕ) [ Some g ↦ g.name | None ↦ name ]) h))) refl
meets_at name t (f ∷ fs) (suc n) h = at (bytes_eq name f.name) (meets_at name t fs n h)
  where
    at : (b : Bool) → meets name (names_in fs) ≡ true → (b || meets name (names_in fs)) ≡ true
    at true h = refl
    at false h = h

bytes_turned : (a b : List ℕ) → bytes_eq a b ≡ true → bytes_eq b a ≡ true
bytes_turned a b e = (exact_name b a).1 (sym ((exact_name a b).0 e))

-- a member of type Null changes no field
null_put : (members : List (List ℕ × Json)) (name : List ℕ) (v : Json) → same (type_of v) data_type.Null ≡ true → meets name (names_in (kept_fields (typed members))) ≡ false
    → kept_fields (typed (put members (name, v))) ≡ kept_fields (typed members)
unfolding put
null_put [] name v e h = rw e refl
null_put (m ∷ ms) name v e h = at (bytes_eq m.0 name) refl (same (type_of m.1) data_type.Null) refl h (λ k. null_put ms name v e k)
  where
    at : (a : Bool) → bytes_eq m.0 name ≡ a → (b : Bool) → same (type_of m.1) data_type.Null ≡ b
        → meets name (names_in (cond b (kept_fields (typed ms)) (nullable m.0 (type_of m.1) ∷ kept_fields (typed ms)))) ≡ false
        → (meets name (names_in (kept_fields (typed ms))) ≡ false → kept_fields (typed (put ms (name, v))) ≡ kept_fields (typed ms))
        → kept_fields (typed (cond a ((m.0, v) ∷ ms) (m ∷ put ms (name, v)))) ≡ cond b (kept_fields (typed ms)) (nullable m.0 (type_of m.1) ∷ kept_fields (typed ms))
    at true p true q k r = rw e refl
    at true p false q k r = absurd (true≢false (sym (bytes_turned m.0 name p) ∙ (or_false (bytes_eq name m.0) (meets name (names_in (kept_fields (typed ms)))) k).0))
    at false p true q k r = rw q (r k)
    at false p false q k r = rw q (ap (λ (fs : List Field). nullable m.0 (type_of m.1) ∷ fs) (r (or_false (bytes_eq name m.0) (meets name (names_in (kept_fields (typed ms)))) k).1))

null_clean : (fields : List Field) (members : List (List ℕ × Json)) (name : List ℕ) (v : Json) → meets name (names_in fields) ≡ false → Clean fields members → Clean fields (put members (name, v))
unfolding put
null_clean fields [] name v h c = ((λ _. h), tt)
null_clean fields (m ∷ ms) name v h c = at (bytes_eq m.0 name) refl (null_clean fields ms name v h c.1)
  where
    at : (b : Bool) → bytes_eq m.0 name ≡ b → Clean fields (put ms (name, v)) → Clean fields (cond b ((m.0, v) ∷ ms) (m ∷ put ms (name, v)))
    at true p r = ((λ _. subst (λ (n : List ℕ). meets n (names_in fields) ≡ false) (sym ((exact_name m.0 name).0 p)) h), c.1)
    at false p r = (c.0, r)

-- a member that is none so far is a field more
field_put : (fields : List Field) (members : List (List ℕ × Json)) (name : List ℕ) (v : Json) → same (type_of v) data_type.Null ≡ false → meets name (names_in fields) ≡ true
    → meets name (names_in (kept_fields (typed members))) ≡ false → Clean fields members
    → kept_fields (typed (put members (name, v))) ≡ kept_fields (typed members) ++ nullable name (type_of v) ∷ []
unfolding put
field_put fields [] name v e f h c = rw e refl
field_put fields (m ∷ ms) name v e f h c = at (bytes_eq m.0 name) refl (same (type_of m.1) data_type.Null) refl h (λ k. field_put fields ms name v e f k c.1)
  where
    at : (a : Bool) → bytes_eq m.0 name ≡ a → (b : Bool) → same (type_of m.1) data_type.Null ≡ b
        → meets name (names_in (cond b (kept_fields (typed ms)) (nullable m.0 (type_of m.1) ∷ kept_fields (typed ms)))) ≡ false
        → (meets name (names_in (kept_fields (typed ms))) ≡ false → kept_fields (typed (put ms (name, v))) ≡ kept_fields (typed ms) ++ nullable name (type_of v) ∷ [])
        → kept_fields (typed (cond a ((m.0, v) ∷ ms) (m ∷ put ms (name, v)))) ≡ cond b (kept_fields (typed ms)) (nullable m.0 (type_of m.1) ∷ kept_fields (typed ms)) ++ nullable name (type_of v) ∷ []
    at true p true q k r = absurd (true≢false (sym f ∙ ap (λ (n : List ℕ). meets n (names_in fields)) (sym ((exact_name m.0 name).0 p)) ∙ c.0 q))
    at true p false q k r = absurd (true≢false (sym (bytes_turned m.0 name p) ∙ (or_false (bytes_eq name m.0) (meets name (names_in (kept_fields (typed ms)))) k).0))
    at false p true q k r = rw q (r k)
    at false p false q k r = rw q (ap (λ (fs : List Field). nullable m.0 (type_of m.1) ∷ fs) (r (or_false (bytes_eq name m.0) (meets name (names_in (kept_fields (typed ms)))) k).1))

field_clean : (fields : List Field) (members : List (List ℕ × Json)) (name : List ℕ) (v : Json) → same (type_of v) data_type.Null ≡ false → Clean fields members → Clean fields (put members (name, v))
unfolding put
field_clean fields [] name v e c = ((λ h. absurd (true≢false (sym h ∙ e))), tt)
field_clean fields (m ∷ ms) name v e c = at (bytes_eq m.0 name) (field_clean fields ms name v e c.1)
  where
    at : (b : Bool) → Clean fields (put ms (name, v)) → Clean fields (cond b ((m.0, v) ∷ ms) (m ∷ put ms (name, v)))
    at true r = ((λ h. absurd (true≢false (sym h ∙ e))), c.1)
    at false r = (c.0, r)

pub null_so_far : (fields : List Field) (index : ℕ) (members : List (List ℕ × Json)) (name : List ℕ) (v : Json) → FieldsSoFar fields index members → type_of v ≡ data_type.Null
    → meets name (names_in fields) ≡ false → FieldsSoFar fields index (put members (name, v))
null_so_far fields index members name v s e h =
    let null : same (type_of v) data_type.Null ≡ true = ap (λ (t : DataType). same t data_type.Null) e ∙ null_is_null in
    let none : meets name (names_in (kept_fields (typed members))) ≡ false = ap (λ (fs : List Field). meets name (names_in fs)) s.are ∙ meets_take name index fields h in
    record { within = s.within; are = null_put members name v null none ∙ s.are; clean = null_clean fields members name v h s.clean }

pub field_so_far : (fields : List Field) (index : ℕ) (members : List (List ℕ × Json)) (name : List ℕ) (v : Json) → FieldsSoFar fields index members → same (type_of v) data_type.Null ≡ false
    → IsNextField fields index name (type_of v) → FieldsSoFar fields (index + 1) (put members (name, v))
field_so_far fields index members name v s e n =
    let none : meets name (names_in (kept_fields (typed members))) ≡ false = ap (λ (fs : List Field). meets name (names_in fs)) s.are ∙ n.first in
    let last : take (suc index) fields ≡ take index fields ++ nullable name (type_of v) ∷ [] =
    take-suc fields index (nullable name (type_of v)) n.within ∙ ap (λ (f : Field). take index fields ++ f ∷ []) (get_or_from_slice_get fields index (nullable name (type_of v)) (nullable name (type_of v)) n.is) in
    let one : index + 1 ≡ suc index = omega arith in
    record {
      within = omega (arith, n.within);
      are = field_put fields members name v e (meets_at name (type_of v) fields index n.is) none s.clean ∙ ap (λ (fs : List Field). fs ++ nullable name (type_of v) ∷ []) s.are ∙ sym last ∙ ap (λ (k : ℕ). take k fields) (sym one);
      clean = field_clean fields members name v e s.clean;
    }

take_all : (fields : List Field) → take (length fields) fields ≡ fields
take_all [] = refl
take_all (f ∷ fs) = ap (λ (gs : List Field). f ∷ gs) (take_all fs)

pub fields_all : (fields : List Field) (index : ℕ) (members : List (List ℕ × Json)) → FieldsSoFar fields index members → index ≡ length fields → type_of (object members) ≡ data_type.Struct fields
fields_all fields index members s e =
    type_of_object members ∙ ap data_type.Struct (s.are ∙ ap (λ (k : ℕ). take k fields) e ∙ take_all fields)

-- one member more
pub member_so_far : (fields : List Field) (index next : ℕ) (members : List (List ℕ × Json)) (name : List ℕ) (v : Json) → FieldsSoFar fields index members
    → ((next ≡ index) × (type_of v ≡ data_type.Null) × (meets name (names_in fields) ≡ false)) ⊎ ((next ≡ index + 1) × (same (type_of v) data_type.Null ≡ false) × IsNextField fields index name (type_of v))
    → FieldsSoFar fields next (put members (name, v))
member_so_far fields index next members name v s (inl h) = subst (λ (n : ℕ). FieldsSoFar fields n (put members (name, v))) (sym h.0) (null_so_far fields index members name v s h.1 h.2)
member_so_far fields index next members name v s (inr h) = subst (λ (n : ℕ). FieldsSoFar fields n (put members (name, v))) (sym h.0) (field_so_far fields index members name v s h.1 h.2)

-- ---- what was read

-- a member that is the next field
pub member_equal : (fields : List Field) (index : ℕ) (name : List ℕ) (t : DataType) (rest : List ℕ) (outcome : Outcome Json) (member : Outcome (List ℕ × Json)) → ((v : Json) → outcome ≡ found v rest → member ≡ found (name, v) rest)
    → Compares comparison.Equal (Some t) rest outcome → IsNextField fields index name t → ReadsMember fields index (index + 1) rest member
member_equal fields index name t rest outcome member all h n =
    (name, h.0, all h.0 h.1, inr (refl, h.2.1, subst (IsNextField fields index name) (sym (some_is t (type_of h.0) h.2.0)) n))

-- a member of type Null that is no field's
pub member_null : (fields : List Field) (index : ℕ) (name : List ℕ) (rest : List ℕ) (outcome : Outcome Json) (member : Outcome (List ℕ × Json)) → ((v : Json) → outcome ≡ found v rest → member ≡ found (name, v) rest)
    → Compares comparison.Null None rest outcome → meets name (names_in fields) ≡ false → ReadsMember fields index index rest member
member_null fields index name rest outcome member all h none = (name, h.0, all h.0 h.1, inl (refl, h.2, none))

pub among_known : (columns : List Column) (name : List ℕ) (t : DataType) (types : List DataType) → types ≡ types_named name columns → (t ≡ data_type.Null) ⊎ Among t types → IsKnown columns name t
among_known columns name t types e (inl h) = inl h
among_known columns name t types e (inr h) = inr (subst (λ (ts : List DataType). Among t ts) e h)

pub null_known : (columns : List Column) (name : List ℕ) (t : DataType) → (t ≡ data_type.Null) ⊎ (◌≡◌ {A = Option DataType} None (Some t)) → IsKnown columns name t
null_known columns name t (inl h) = inl h
null_known columns name t (inr h) = absurd cc

-- ---- rows that add nothing

pub still_structs : (s : Seen) (columns : List Column) (members : List (List ℕ × Json)) → s ≡ seen.Structs columns → AreKnown columns members → more_kept s (type_of (object members)) ≡ s
still_structs s columns members e h = ap (λ (r : Seen). more_kept r (type_of (object members))) e ∙ known_adds columns members h ∙ sym e

pub still_one : (s : Seen) (t u : DataType) → s ≡ seen.One t → u ≡ t → more_kept s u ≡ s
still_one s t u e h = ap (λ (r : Seen). more_kept r u) e ∙ same_adds t u h ∙ sym e
