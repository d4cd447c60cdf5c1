-- The record that columns have: its text is UTF-8 where the names are, and nests as deep as the columns do.
use Rattle.std.proofs.Common.{◌≡◌, ◌∙◌, ℕ, zero, suc, ◌+◌, ◌≤◌, Bool, true, false, List, [], ◌∷◌, Some, None, sym, ap, subst, arith}
use Rattle.std.specs.List.{AllByRecursion}
use Rattle.std.specs.Str.{IsUtf8}
use Rattle.std.proofs.lemmas.Option.{none-some, same_Some}
use Rattle.arrow_core.specs.declared.types.DataType.{DataType}
use Rattle.arrow_core.specs.declared.types.DataType as types
use Rattle.arrow_core.specs.declared.types.Field.{Field}
use Rattle.arrow_core.specs.declared.types.IntervalUnit.TheVariants as interval
use Rattle.arrow_core.specs.declared.types.TimeUnit.TheVariants as unit
use Rattle.avro_schema.specs.declared.schema.AvroField.{AvroField}
use Rattle.avro_schema.specs.declared.schema.Record.{Record as TheRecord, out-Record, out-roll-Record}
use Rattle.avro_schema.specs.declared.schema.Schema.{Schema, Null, Long, Record, Array}
use Rattle.avro_schema.specs.AndThen.{◌>>=◌}
use Rattle.avro_schema.proofs.Basics.{bind_some}
use Rattle.avro_types.specs.Listed.{HasNoFields, array_schema, named_all}
use Rattle.avro_types.specs.Named.{named, named_record, named_root, nameless_in}
use Rattle.avro_types.specs.Schemas.{column_schema, columns_fields, optional, plain_field, plain_record, record_name, record_of, schema_of, structs_in, timestamp}
use Rattle.avro_types.proofs.ByFields.{struct_schema_is}
use Rattle.avro_types.proofs.Renamed.{array_named, record_named, union_named}
use Rattle.arrow_convert.specs.Brackets.{flat_brackets}
use Rattle.arrow_convert.proofs.SchemaTexts.{FieldHasText, HasText, has_array, has_boolean, has_bytes, has_decimal, has_double, has_field, has_fixed, has_float, has_int, has_long, has_null, has_optional, has_record, has_string, numbered_utf8}

-- the schema of a type, where it has one, has a text that nests at most d deep, once its fixed types have names
abbrev pub IsWrittenIn : ℕ → DataType → Type 0
IsWrittenIn d t = (k n : ℕ) (s : Schema) → schema_of true k t ≡ Some s → HasText d (named n s)

-- the same of a column's schema; that of a nullable one stands in the brackets of a union
abbrev pub ColumnIn : Bool → ℕ → DataType → Type 0
ColumnIn false d t = IsWrittenIn d t
ColumnIn true zero t = ⊥
ColumnIn true (suc d) t = IsWrittenIn d t

-- a field of a record stands in brackets of its own, with its name
abbrev pub IsFieldIn : ℕ → Field → Type 0
IsFieldIn zero f = ⊥
IsFieldIn (suc d) f = IsUtf8 f.name × ColumnIn f.is_nullable d f.data_type

abbrev pub AreFieldsIn : ℕ → List Field → Type 0
AreFieldsIn m = AllByRecursion (IsFieldIn m)

-- ---- types with no types in them

made : (d n : ℕ) (a s : Schema) → Some a ≡ Some s → HasText d (named n a) → HasText d (named n s)
made d n a s e h = subst (λ z. HasText d (named n z)) (same_Some a s e) h

pub flat_written : (d : ℕ) (t : DataType) → HasNoFields t → flat_brackets t ≤ d → IsWrittenIn d t
flat_written d types.Null x l k n s e = made d n _ s e (has_null d)
flat_written d types.Boolean x l k n s e = made d n _ s e (has_boolean d)
flat_written d types.Int32 x l k n s e = made d n _ s e (has_int d None (omega arith))
flat_written d types.Date32 x l k n s e = made d n _ s e (has_int d _ l)
flat_written d (types.Time32 unit.Millisecond) x l k n s e = made d n _ s e (has_int d _ l)
flat_written d types.Int64 x l k n s e = made d n _ s e (has_long d None (omega arith))
flat_written d (types.Time64 unit.Microsecond) x l k n s e = made d n _ s e (has_long d _ l)
flat_written d (types.Timestamp u zone) x l k n s e = let q = bind_some (timestamp u zone) (λ logical. Some (Long (Some logical))) s e in made d n _ s q.2 (has_long d (Some q.0) l)
flat_written d types.Float32 x l k n s e = made d n _ s e (has_float d)
flat_written d types.Float64 x l k n s e = made d n _ s e (has_double d)
flat_written d types.Binary x l k n s e = made d n _ s e (has_bytes d)
flat_written d types.LargeBinary x l k n s e = made d n _ s e (has_bytes d)
flat_written d (types.Decimal precision scale) x l k n s e = made d n _ s e (has_decimal d precision scale l)
flat_written d types.Utf8 x l k n s e = made d n _ s e (has_string d)
flat_written d types.LargeUtf8 x l k n s e = made d n _ s e (has_string d)
flat_written d (types.FixedSizeBinary size) x l k n s e = made d n _ s e (has_fixed d _ size _ (numbered_utf8 0x66 (n + 1) (omega arith)) l)
flat_written d (types.Interval interval.MonthDayNano) x l k n s e = made d n _ s e (has_fixed d _ 12 _ (numbered_utf8 0x66 (n + 1) (omega arith)) l)
flat_written d (types.List' shape item) x l k n s e = absurd x
flat_written d (types.LargeList' shape item) x l k n s e = absurd x
flat_written d (types.Struct' shape fields) x l k n s e = absurd x
flat_written d _ x l k n s e = absurd (none-some s e)

-- ---- lists and structs

-- a column, by its type
column_written : (d : ℕ) (f : Field) → ColumnIn f.is_nullable d f.data_type → (k n : ℕ) (z : Schema) → column_schema true k f ≡ Some z → HasText d (named n z)
column_written d f h k n z e =
    let p = bind_some (schema_of true k f.data_type) (λ s. Some (optional true f.is_nullable s)) z e in
    made d n (optional true f.is_nullable p.0) z p.2 (from d f.is_nullable h p.0 p.1)
  where
    from : (m : ℕ) (null : Bool) → ColumnIn null m f.data_type → (s : Schema) → schema_of true k f.data_type ≡ Some s → HasText m (named n (optional true null s))
    from m false one s is = one k n s is
    from zero true one s is = absurd one
    from (suc m) true one s is = subst (HasText (suc m)) (sym (union_named n (Null ∷ s ∷ []))) (has_optional m (named (n + 0) s) (one k (n + 0) s is))

-- a type of lists of this field
pub listed_written : (d : ℕ) (t : DataType) (f : Field) → ((k : ℕ) → schema_of true k t ≡ array_schema true k f) → ColumnIn f.is_nullable d f.data_type → IsWrittenIn (suc d) t
listed_written d t f schema one k n s e =
    let q = bind_some (column_schema true k f) (λ z. Some (Array z)) s (sym (schema k) ∙ e) in
    made (suc d) n (Array q.0) s q.2 (subst (HasText (suc d)) (sym (array_named n q.0)) (has_array d (named n q.0) (column_written d f one k n q.0 q.1)))

field_written : (m : ℕ) (f : Field) → IsFieldIn m f → (k n : ℕ) (z : Schema) → column_schema true k f ≡ Some z → FieldHasText m (record { name = f.name; doc = None; schema = named n z })
field_written zero f h k n z e = absurd h
field_written (suc d) f h k n z e = has_field d f.name (named n z) h.0 (column_written d f h.1 k n z e)

fields_written : (m : ℕ) (fs : List Field) → AreFieldsIn m fs → (k n : ℕ) (gs : List AvroField) → columns_fields true k fs ≡ Some gs → AllByRecursion (FieldHasText m) (named_all n gs)
fields_written m [] all k n gs e = subst (λ (done : List AvroField). AllByRecursion (FieldHasText m) (named_all n done)) (same_Some [] gs e) tt
fields_written m (f ∷ fs) all k n gs e =
    let q = bind_some (column_schema true k f) (λ z. columns_fields true (k + structs_in f.data_type) fs >>= λ more. Some (plain_field f.name z ∷ more)) gs e in
    let r = bind_some (columns_fields true (k + structs_in f.data_type) fs) (λ more. Some (plain_field f.name q.0 ∷ more)) gs q.2 in
    let one = field_written m f all.0 k n q.0 q.1 in
    let more = fields_written m fs all.1 (k + structs_in f.data_type) (n + nameless_in q.0) r.0 r.1 in
    subst (λ (done : List AvroField). AllByRecursion (FieldHasText m) (named_all n done)) (same_Some (plain_field f.name q.0 ∷ r.0) gs r.2) (one, more)

-- a record of such fields, under a name
named_written : (m n : ℕ) (name : List ℕ) (gs : List AvroField) → IsUtf8 name → AllByRecursion (FieldHasText m) (named_all n gs) → (r : TheRecord) → (out-Record r).name ≡ name
    → (out-Record r).namespace ≡ None → (out-Record r).doc ≡ None → (out-Record r).fields ≡ named_all n gs → HasText (suc (suc m)) (Record r)
named_written m n name gs u all r is namespace doc fields = has_record m r (subst IsUtf8 (sym is) u) namespace doc (subst (AllByRecursion (FieldHasText m)) (sym fields) all)

-- what a record that was made without a namespace and a doc is, once its fixed types have names
module _ (n : ℕ) (name : List ℕ) (gs : List AvroField) where
  abbrev opened : TheRecord
  opened = named_record n (plain_record name gs)

  opened_name : (out-Record opened).name ≡ name
  opened_name = ap (λ (r : TheRecord). (out-Record r).name) (record_named n (plain_record name gs)) ∙ ap (λ o. o.name) (out-roll-Record _) ∙ ap (λ o. o.name) (out-roll-Record _)

  opened_namespace : (out-Record opened).namespace ≡ None
  opened_namespace = ap (λ (r : TheRecord). (out-Record r).namespace) (record_named n (plain_record name gs)) ∙ ap (λ o. o.namespace) (out-roll-Record _) ∙ ap (λ o. o.namespace) (out-roll-Record _)

  opened_doc : (out-Record opened).doc ≡ None
  opened_doc = ap (λ (r : TheRecord). (out-Record r).doc) (record_named n (plain_record name gs)) ∙ ap (λ o. o.doc) (out-roll-Record _) ∙ ap (λ o. o.doc) (out-roll-Record _)

  opened_fields : (out-Record opened).fields ≡ named_all n gs
  opened_fields = ap (λ (r : TheRecord). (out-Record r).fields) (record_named n (plain_record name gs)) ∙ ap (λ o. o.fields) (out-roll-Record _) ∙ ap (named_all n) (ap (λ o. o.fields) (out-roll-Record _))

pub struct_written : (m : ℕ) (fs : List Field) → AreFieldsIn m fs → IsWrittenIn (suc (suc m)) (types.Struct fs)
struct_written m fs all k n s e =
    let name = record_name (k + 1) in
    let q = bind_some (columns_fields true (k + 1) fs) (λ gs. Some (Record (plain_record name gs))) s (sym (struct_schema_is true k fs) ∙ e) in
    made (suc (suc m)) n (Record (plain_record name q.0)) s q.2
    (named_written m n name q.0 (numbered_utf8 0x72 (k + 1) (omega arith)) (fields_written m fs all (k + 1) n q.0 q.1) (opened n name q.0) (opened_name n name q.0) (opened_namespace n name q.0) (opened_doc n name q.0) (opened_fields n name q.0))

-- ---- the record of columns

pub target_written : (m : ℕ) (fields : List Field) (name : List ℕ) (nameless target : TheRecord) → record_of true fields ≡ Some nameless → target ≡ named_root name nameless → IsUtf8 name → AreFieldsIn m fields → HasText (suc (suc m)) (Record target)
target_written m fields name nameless target recorded named_so u all =
    let q = bind_some (columns_fields true 0 fields) (λ gs. Some (plain_record [] gs)) nameless recorded in
    let is : target ≡ named_root name (plain_record [] q.0) = named_so ∙ ap (named_root name) (sym (same_Some (plain_record [] q.0) nameless q.2)) in
    let root = named_root name (plain_record [] q.0) in
    subst (λ (r : TheRecord). HasText (suc (suc m)) (Record r)) (sym is)
    (named_written m 0 name q.0 u (fields_written m fields all 0 0 q.0 q.1) root (ap (λ o. o.name) (out-roll-Record _)) (ap (λ o. o.namespace) (out-roll-Record _) ∙ opened_namespace 0 [] q.0) (ap (λ o. o.doc) (out-roll-Record _) ∙ opened_doc 0 [] q.0)
    (ap (λ o. o.fields) (out-roll-Record _) ∙ opened_fields 0 [] q.0))
