-- Decoded columns are accepted under the fields of their record.
use Rattle.std.proofs.Common.{◌≡◌, ◌∙◌, ℕ, zero, suc, ◌+◌, ◌<◌, Bool, false, List, [], ◌∷◌, length, map, drop, get_or, Option, Some, None, refl, sym, ap, subst, arith, add-one}
use Rattle.std.specs.List.{AllByRecursion, AllZip, list_any, range_with_len}
use Rattle.std.proofs.lemmas.Option.{same_Some}
use Rattle.std.proofs.lemmas.List.Elements.{All-tail}
use Rattle.arrow_core.specs.declared.slot.Slot.{Slot}
use Rattle.arrow_core.specs.declared.slot.Slot.TheVariants as slot
use Rattle.arrow_core.specs.declared.types.Field.{Field}
use Rattle.arrow_core.specs.declared.types.DataType.{DataType}
use Rattle.arrow_array.specs.declared.array.Array.{Array}
use Rattle.arrow_array.specs.Arrays.{array_slots, array_type}
use Rattle.avro_schema.specs.declared.schema.AvroField.{AvroField}
use Rattle.avro_schema.specs.declared.schema.Schema.{Schema}
use Rattle.avro_schema.specs.AndThen.{◌>>=◌}
use Rattle.avro_schema.specs.Carried.{Carried, CarriedList}
use Rattle.avro_schema.specs.Encodes.{Encodes}
use Rattle.avro_schema.specs.Inferred.{column_field, columns_of, inferred, own_doc}
use Rattle.avro_schema.specs.Parts.{Many}
use Rattle.avro_schema.specs.Rows.{Pieces, Row, Rows, column}
use Rattle.avro_schema.specs.Types.{is_union}
use Rattle.avro_schema.specs.ValidBlock.{HasFloat, KeepNoFloat}
use Rattle.avro_schema.proofs.Basics.{bind_some}
use Rattle.avro_encode.specs.PairTypes.{PairsType}
use Rattle.avro_types.specs.Listed.{named_all}
use Rattle.avro_types.specs.Named.{named, nameless_in}
use Rattle.avro_types.specs.Schemas.{can_serialize, column_schema, columns_fields, optional, plain_field, schema_of, structs_in}
use Rattle.avro_write.specs.declared.flaws.Flaw.{Flaw}
use Rattle.avro_write.specs.declared.flaws.Flaw.TheVariants as flaw
use Rattle.avro_write.specs.Flaws.{shows}
use Rattle.avro_write.specs.Laws.{all_kept}
use Rattle.avro_write.proofs.Serializable.{serializable_pairs}
use Rattle.avro_canonical.specs.Columns.{AreAccepted}
use Rattle.avro_canonical.specs.Laws.{AreBytes}
use Rattle.avro_canonical.proofs.Again.{decoded_is_serializable, parts}

-- ---- fields, their columns, and the fields of the columns' record

pub record FieldAgain (a : AvroField) (c : Field) (g : AvroField) : Type 0 where
  pub types : PairsType g.schema c.data_type
  pub clean : (f : Flaw) (bytes : List ℕ) (x : Slot) → AreBytes bytes → Encodes a.schema bytes x → shows f g.schema x ≡ false

abbrev pub FieldsAgain : List AvroField → List Field → List AvroField → Type 0
FieldsAgain [] [] [] = Unit {0}
FieldsAgain (a ∷ avros) (c ∷ columns) (g ∷ fields) = FieldAgain a c g × FieldsAgain avros columns fields
FieldsAgain _ _ _ = ⊥

column_type : (name : List ℕ) (doc : Option (List ℕ)) (s : Schema) (t : DataType) → (column_field name doc s t).data_type ≡ t
column_type name None s t = refl
column_type name (Some doc) s t = refl

column_nullable : (name : List ℕ) (doc : Option (List ℕ)) (s : Schema) (t : DataType) → (column_field name doc s t).is_nullable ≡ is_union s
column_nullable name None s t = refl
column_nullable name (Some doc) s t = refl

one_field : (b : Bool) (k n : ℕ) (a : AvroField) (c : Field) (t : DataType) (z : Schema) (name : List ℕ) → Carried a.schema → (HasFloat a.schema → ⊥) → inferred a.schema ≡ Some t → c.data_type ≡ t → c.is_nullable ≡ is_union a.schema → column_schema b k c ≡ Some z
    → FieldAgain a c (record { name = name; doc = None; schema = named n z })
one_field b k n a c t z name carried floats e type nullable q =
    let w = bind_some (schema_of b k c.data_type) (λ y. Some (optional b c.is_nullable y)) z q in
    let r = decoded_is_serializable b k n a.schema w.0 t carried floats e (ap (schema_of b k) (sym type) ∙ w.1) in
    let is : z ≡ optional b c.is_nullable w.0 = sym (same_Some (optional b c.is_nullable w.0) z w.2) in
    let p = serializable_pairs b c.is_nullable k n c.data_type w.0 w.1 (ap can_serialize type ∙ r.0) in
    record {
      types = subst (λ y. PairsType (named n y) c.data_type) (sym is) p.1;
      clean = λ f bytes x are h. ap (λ y. shows f (named n y) x) (is ∙ ap (λ u. optional b u w.0) nullable) ∙ r.1 f bytes x are h;
    }

no_float_head : (a : AvroField) (avros : List AvroField) → KeepNoFloat (a ∷ avros) (all_kept (a ∷ avros)) → HasFloat a.schema → ⊥
no_float_head a avros h = h 0 a (omega arith)

no_float_tail : (a : AvroField) (avros : List AvroField) → KeepNoFloat (a ∷ avros) (all_kept (a ∷ avros)) → KeepNoFloat avros (all_kept avros)
no_float_tail a avros h k d l = h (suc k) d (omega (arith, l))

pub fields_again : (b : Bool) (k n : ℕ) (avros : List AvroField) (columns : List Field) (raw : List AvroField) → CarriedList avros → KeepNoFloat avros (all_kept avros) → columns_of own_doc avros ≡ Some columns → columns_fields b k columns ≡ Some raw
    → FieldsAgain avros columns (named_all n raw)
fields_again b k n [] columns raw carried floats e q =
    let none : columns ≡ [] = sym (same_Some [] columns e) in
    let empty : raw ≡ [] = sym (same_Some [] raw (ap (columns_fields b k) (sym none) ∙ q)) in
    subst (λ (fs : List AvroField). FieldsAgain [] columns (named_all n fs)) (sym empty) (subst (λ (cs : List Field). FieldsAgain [] cs []) (sym none) tt)
fields_again b k n (a ∷ avros) columns raw carried floats e q =
    let one = bind_some (inferred a.schema) (λ t. columns_of own_doc avros >>= λ cs. Some (column_field a.name (own_doc a) a.schema t ∷ cs)) columns e in
    let two = bind_some (columns_of own_doc avros) (λ cs. Some (column_field a.name (own_doc a) a.schema one.0 ∷ cs)) columns one.2 in
    let c = column_field a.name (own_doc a) a.schema one.0 in
    let are : columns ≡ c ∷ two.0 = sym (same_Some (c ∷ two.0) columns two.2) in
    let u = bind_some (column_schema b k c) (λ y. columns_fields b (k + structs_in c.data_type) two.0 >>= λ more. Some (plain_field c.name y ∷ more)) raw (ap (columns_fields b k) (sym are) ∙ q) in
    let v = bind_some (columns_fields b (k + structs_in c.data_type) two.0) (λ more. Some (plain_field c.name u.0 ∷ more)) raw u.2 in
    let written : raw ≡ plain_field c.name u.0 ∷ v.0 = sym (same_Some (plain_field c.name u.0 ∷ v.0) raw v.2) in
    let first = one_field b k n a c one.0 u.0 c.name (carried 0 a (omega arith)) (no_float_head a avros floats) one.1 (column_type a.name (own_doc a) a.schema one.0) (column_nullable a.name (own_doc a) a.schema one.0) u.1 in
    let more = fields_again b (k + structs_in c.data_type) (n + nameless_in u.0) avros two.0 v.0 (All-tail (λ (g : AvroField). Carried g.schema) a avros carried) (no_float_tail a avros floats) two.1 v.1 in
    subst (λ (fs : List AvroField). FieldsAgain (a ∷ avros) columns (named_all n fs)) (sym written) (subst (λ (cs : List Field). FieldsAgain (a ∷ avros) cs (named_all n (plain_field c.name u.0 ∷ v.0))) (sym are) (first, more))

-- ---- rows

-- no slot of the row shows a flaw under its field
abbrev pub IsClean : List AvroField → List Slot → Type 0
IsClean = AllZip (λ g x. (f : Flaw) → shows f g.schema x ≡ false)

row_clean : (avros : List AvroField) (columns : List Field) (fields : List AvroField) (bytes : List ℕ) (y : Pieces) → FieldsAgain avros columns fields → AreBytes bytes → Row avros (all_kept avros) bytes y → IsClean fields y.slots
row_clean [] [] [] bytes y again are h = subst (λ (p : Pieces). IsClean [] p.slots) (sym h.1) tt
row_clean [] (c ∷ columns) fields bytes y again are h = absurd again
row_clean [] [] (g ∷ fields) bytes y again are h = absurd again
row_clean (a ∷ avros) [] fields bytes y again are h = absurd again
row_clean (a ∷ avros) (c ∷ columns) [] bytes y again are h = absurd again
row_clean (a ∷ avros) (c ∷ columns) (g ∷ fields) bytes y again are h =
    let both = parts bytes h.prefix h.back h.joined are in
    subst (λ (p : Pieces). IsClean (g ∷ fields) p.slots) (sym h.second.1)
    (λ f. again.0.clean f h.prefix h.value.0 both.0 h.first.0, row_clean avros columns fields h.back h.second.0 again.1 both.1 h.second.2)

rows_clean : (n : ℕ) (avros : List AvroField) (columns : List Field) (fields : List AvroField) (bytes : List ℕ) (ys : List Pieces) → FieldsAgain avros columns fields → AreBytes bytes → Many (Row avros (all_kept avros)) n bytes ys
    → AllByRecursion (IsClean fields) (map (λ (y : Pieces). y.slots) ys)
rows_clean zero avros columns fields bytes ys again are h = subst (λ (zs : List Pieces). AllByRecursion (IsClean fields) (map (λ (y : Pieces). y.slots) zs)) (sym h.1) tt
rows_clean (suc n) avros columns fields bytes ys again are h =
    let both = parts bytes h.prefix h.back h.joined are in
    subst (λ (zs : List Pieces). AllByRecursion (IsClean fields) (map (λ (y : Pieces). y.slots) zs)) (sym h.second.1)
    (row_clean avros columns fields h.prefix h.value again both.0 h.first, rows_clean n avros columns fields h.back h.second.0 again both.1 h.second.2)

pub table_clean : (n : ℕ) (avros : List AvroField) (columns : List Field) (fields : List AvroField) (bytes : List ℕ) (table : List (List Slot)) → FieldsAgain avros columns fields → AreBytes bytes → Rows n avros (all_kept avros) bytes table → AllByRecursion (IsClean fields) table
table_clean n avros columns fields bytes table again are r = subst (AllByRecursion (IsClean fields)) (sym r.told) (rows_clean n avros columns fields bytes r.pieces again are r.encoded)

pub clean_width : (fields : List AvroField) (xs : List Slot) → IsClean fields xs → length xs ≡ length fields
clean_width [] [] h = refl
clean_width [] (x ∷ xs) h = absurd h
clean_width (g ∷ fields) [] h = absurd h
clean_width (g ∷ fields) (x ∷ xs) h = ap suc (clean_width fields xs h.1)

pub clean_widths : (fields : List AvroField) (table : List (List Slot)) → AllByRecursion (IsClean fields) table → AllByRecursion (λ xs. length xs ≡ length fields) table
clean_widths fields [] h = tt
clean_widths fields (xs ∷ table) h = (clean_width fields xs h.0, clean_widths fields table h.1)

-- ---- columns

clean_at : (g : AvroField) (fields : List AvroField) (k : ℕ) (xs : List Slot) → IsClean (g ∷ fields) (drop k xs) → ((f : Flaw) → shows f g.schema (get_or xs k slot.Null) ≡ false) × IsClean fields (drop (suc k) xs)
clean_at g fields zero [] h = absurd h
clean_at g fields zero (x ∷ xs) h = (h.0, h.1)
clean_at g fields (suc k) [] h = absurd h
clean_at g fields (suc k) (x ∷ xs) h = clean_at g fields k xs h

-- the rows from a column on
abbrev CleanFrom : ℕ → List AvroField → List (List Slot) → Type 0
CleanFrom k fields = AllByRecursion (λ xs. IsClean fields (drop k xs))

column_clean : (g : AvroField) (fields : List AvroField) (k : ℕ) (table : List (List Slot)) (f : Flaw) → CleanFrom k (g ∷ fields) table → list_any (shows f g.schema) (column table k) ≡ false
column_clean g fields k [] f h = refl
column_clean g fields k (xs ∷ table) f h = rw ((clean_at g fields k xs h.0).0 f, column_clean g fields k table f h.1) refl

next_clean : (g : AvroField) (fields : List AvroField) (k : ℕ) (table : List (List Slot)) → CleanFrom k (g ∷ fields) table → CleanFrom (k + 1) fields table
next_clean g fields k [] h = tt
next_clean g fields k (xs ∷ table) h = (subst (λ n. IsClean fields (drop n xs)) (sym (add-one k)) (clean_at g fields k xs h.0).1, next_clean g fields k table h.1)

head_is : {X : Type 0} {x y : X} {xs ys : List X} → x ∷ xs ≡ y ∷ ys → x ≡ y
head_is q = cc

tail_is : {X : Type 0} {x y : X} {xs ys : List X} → x ∷ xs ≡ y ∷ ys → xs ≡ ys
tail_is q = cc

accepted_from : (k : ℕ) (avros : List AvroField) (columns : List Field) (fields : List AvroField) (arrays : List Array) (table : List (List Slot)) → FieldsAgain avros columns fields → CleanFrom k fields table
    → map array_type arrays ≡ map (λ (c : Field). c.data_type) columns → map array_slots arrays ≡ map (column table) (range_with_len k (length arrays)) → AreAccepted fields arrays
accepted_from k [] [] [] [] table again clean types slots = tt
accepted_from k [] [] [] (a ∷ arrays) table again clean types slots = absurd (omega (arith, ap length types))
accepted_from k [] [] (g ∷ fields) arrays table again clean types slots = absurd again
accepted_from k [] (c ∷ columns) fields arrays table again clean types slots = absurd again
accepted_from k (s ∷ avros) [] fields arrays table again clean types slots = absurd again
accepted_from k (s ∷ avros) (c ∷ columns) [] arrays table again clean types slots = absurd again
accepted_from k (s ∷ avros) (c ∷ columns) (g ∷ fields) [] table again clean types slots = absurd (omega (arith, ap length types))
accepted_from k (s ∷ avros) (c ∷ columns) (g ∷ fields) (a ∷ arrays) table again clean types slots =
    let are : array_slots a ≡ column table k = head_is slots in (
      record {
        types = subst (PairsType g.schema) (sym (head_is types)) again.0.types;
        nulls = ap (list_any (shows flaw.Null g.schema)) are ∙ column_clean g fields k table flaw.Null clean;
        intervals = ap (list_any (shows flaw.Interval g.schema)) are ∙ column_clean g fields k table flaw.Interval clean;
      },
      accepted_from (k + 1) avros columns fields arrays table again.1 (next_clean g fields k table clean) (tail_is types) (tail_is slots),
    )

pub accepted : (avros : List AvroField) (columns : List Field) (fields : List AvroField) (arrays : List Array) (table : List (List Slot)) → FieldsAgain avros columns fields → AllByRecursion (IsClean fields) table
    → map array_type arrays ≡ map (λ (c : Field). c.data_type) columns → map array_slots arrays ≡ map (column table) (range_with_len 0 (length arrays)) → AreAccepted fields arrays
accepted avros columns fields arrays table again clean types slots = accepted_from 0 avros columns fields arrays table again clean types slots

-- ---- bytes

pub are_bytes : (xs : List ℕ) → ((i : ℕ) → get_or xs i 0 < 256) → AreBytes xs
are_bytes [] h = tt
are_bytes (x ∷ xs) h = (h 0, are_bytes xs (λ i. h (suc i)))
