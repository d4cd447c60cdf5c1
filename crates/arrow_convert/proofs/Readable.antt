-- A type that JSON values are read under, which has a schema and holds no Null, can be serialized.
use Rattle.std.proofs.Common.{◌≡◌, ◌∙◌, ℕ, ◌+◌, Bool, true, false, not, ◌||◌, eqb, List, [], ◌∷◌, length, Some, refl, sym, ap}
use Rattle.std.specs.Option.{is_some}
use Rattle.std.proofs.lemmas.Bool.{and_parts, false≢true}
use Rattle.std.proofs.lemmas.Option.{none-some}
use Rattle.arrow_core.specs.declared.types.DataType.{DataType}
use Rattle.arrow_core.specs.declared.types.DataType as types
use Rattle.arrow_core.specs.declared.types.Field.{Field}
use Rattle.arrow_core.specs.declared.types.IntervalUnit.TheVariants as interval
use Rattle.arrow_core.specs.declared.types.TimeUnit.TheVariants as unit
use Rattle.avro_schema.specs.declared.schema.AvroField.{AvroField}
use Rattle.avro_schema.specs.declared.schema.Record.{Record as TheRecord}
use Rattle.avro_schema.specs.declared.schema.Schema.{Schema, Array, Long, Record}
use Rattle.avro_schema.specs.AndThen.{◌>>=◌}
use Rattle.avro_schema.proofs.Basics.{bind_some}
use Rattle.avro_types.specs.Listed.{HasNoFields, array_schema, can_serialize_all}
use Rattle.avro_types.specs.Schemas.{can_serialize, column_schema, columns_fields, optional, plain_field, plain_record, record_name, schema_of, structs_in, timestamp}
use Rattle.avro_types.proofs.ByFields.{large_list_schema, large_list_serializable, list_schema, list_serializable, struct_schema_is, struct_serializable}
use Rattle.json_columns.specs.Gathered.{all_have_reading}
use Rattle.json_flat.specs.Reading.{has_reading}
use Rattle.json_columns.proofs.ByFields.{large_list_readable, list_readable, struct_readable}
use Rattle.ndjson_avro.specs.Nulls.{any_holds_null, holds_null}
use Rattle.ndjson_avro.specs.Target.{HasTarget}
use Rattle.ndjson_avro.proofs.NullTypes.{large_list_nulls, list_nulls, struct_nulls}
use Rattle.arrow_convert.proofs.ByParts.{EachType, each_by_parts}

or_parts : (a b : Bool) → (a || b) ≡ false → (a ≡ false) × (b ≡ false)
or_parts true b e = absurd (false≢true (sym e))
or_parts false b e = (refl, e)

abbrev IsSerializable : DataType → Type 0
IsSerializable t = (k : ℕ) (s : Schema) → schema_of true k t ≡ Some s → holds_null t ≡ false → has_reading t ≡ true → can_serialize t ≡ true

flat_serializable : (t : DataType) → HasNoFields t → IsSerializable t
flat_serializable types.Null x k s e null h = absurd (false≢true (sym null))
flat_serializable types.Boolean x k s e null h = refl
flat_serializable types.Int8 x k s e null h = absurd (none-some s e)
flat_serializable types.Int16 x k s e null h = absurd (none-some s e)
flat_serializable types.Int32 x k s e null h = refl
flat_serializable types.Int64 x k s e null h = refl
flat_serializable types.UInt8 x k s e null h = absurd (none-some s e)
flat_serializable types.UInt16 x k s e null h = absurd (none-some s e)
flat_serializable types.UInt32 x k s e null h = absurd (none-some s e)
flat_serializable types.UInt64 x k s e null h = absurd (none-some s e)
flat_serializable types.Date32 x k s e null h = refl
flat_serializable types.Date64 x k s e null h = absurd (none-some s e)
flat_serializable (types.Time32 unit.Second) x k s e null h = absurd (none-some s e)
flat_serializable (types.Time32 unit.Millisecond) x k s e null h = refl
flat_serializable (types.Time32 unit.Microsecond) x k s e null h = absurd (none-some s e)
flat_serializable (types.Time32 unit.Nanosecond) x k s e null h = absurd (none-some s e)
flat_serializable (types.Time64 unit.Second) x k s e null h = absurd (none-some s e)
flat_serializable (types.Time64 unit.Millisecond) x k s e null h = absurd (none-some s e)
flat_serializable (types.Time64 unit.Microsecond) x k s e null h = refl
flat_serializable (types.Time64 unit.Nanosecond) x k s e null h = absurd (none-some s e)
flat_serializable (types.Duration u) x k s e null h = absurd (none-some s e)
flat_serializable (types.Interval interval.YearMonth) x k s e null h = absurd (none-some s e)
flat_serializable (types.Timestamp u zone) x k s e null h = ap is_some (bind_some (timestamp u zone) (λ logical. Some (Long (Some logical))) s e).1
flat_serializable types.Utf8 x k s e null h = refl
flat_serializable types.LargeUtf8 x k s e null h = refl
flat_serializable types.Binary x k s e null h = refl
flat_serializable types.LargeBinary x k s e null h = refl
flat_serializable (types.List' shape item) x k s e null h = absurd x
flat_serializable (types.LargeList' shape item) x k s e null h = absurd x
flat_serializable (types.Struct' shape fields) x k s e null h = absurd x
flat_serializable (types.FixedSizeList' shape item size) x k s e null h = absurd (none-some s e)
flat_serializable (types.Dictionary' key shape value is_sorted) x k s e null h = absurd (none-some s e)
flat_serializable _ x k s e null h = absurd (false≢true h)

listed_serializable : (t : DataType) (f : Field) → ((k : ℕ) → schema_of true k t ≡ array_schema true k f) → can_serialize t ≡ can_serialize f.data_type → holds_null t ≡ holds_null f.data_type → has_reading t ≡ has_reading f.data_type → IsSerializable f.data_type → IsSerializable t
listed_serializable t f schema serial nulls readable one k s e null h =
    let q = bind_some (column_schema true k f) (λ z. Some (Array z)) s (sym (schema k) ∙ e) in
    let p = bind_some (schema_of true k f.data_type) (λ z. Some (optional true f.is_nullable z)) q.0 q.1 in
    serial ∙ one k p.0 p.1 (sym nulls ∙ null) (sym readable ∙ h)

columns_serializable : (fs : List Field) → EachType IsSerializable fs → (k : ℕ) (gs : List AvroField) → columns_fields true k fs ≡ Some gs → any_holds_null fs ≡ false → all_have_reading fs ≡ true → can_serialize_all fs ≡ true
columns_serializable [] all k gs e null h = refl
columns_serializable (f ∷ fs) all k gs e null h =
    let q = bind_some (column_schema true k f) (λ z. columns_fields true (k + structs_in f.data_type) fs >>= λ more. Some (plain_field f.name z ∷ more)) gs e in
    let r = bind_some (columns_fields true (k + structs_in f.data_type) fs) (λ more. Some (plain_field f.name q.0 ∷ more)) gs q.2 in
    let p = bind_some (schema_of true k f.data_type) (λ z. Some (optional true f.is_nullable z)) q.0 q.1 in
    let none = or_parts (holds_null f.data_type) (any_holds_null fs) null in
    let both = and_parts (has_reading f.data_type) (all_have_reading fs) h in
    rw (all.0 k p.0 p.1 none.0 both.0, columns_serializable fs all.1 (k + structs_in f.data_type) r.0 r.1 none.1 both.1) refl

struct_serials : (fs : List Field) → EachType IsSerializable fs → IsSerializable (types.Struct fs)
struct_serials fs all k s e null h =
    let q = bind_some (columns_fields true (k + 1) fs) (λ gs. Some (Record (plain_record (record_name (k + 1)) gs))) s (sym (struct_schema_is true k fs) ∙ e) in
    let both = and_parts (not (eqb (length fs) 0)) (all_have_reading fs) (sym (struct_readable fs) ∙ h) in
    struct_serializable fs ∙ (rw (both.0, columns_serializable fs all (k + 1) q.0 q.1 (sym (struct_nulls fs) ∙ null) both.1) refl)

each_serializable : (fs : List Field) → EachType IsSerializable fs
each_serializable = each_by_parts IsSerializable flat_serializable
    (λ f p. listed_serializable (types.List f) f (λ k. list_schema true k f) (list_serializable f) (list_nulls f) (list_readable f) p)
    (λ f p. listed_serializable (types.LargeList f) f (λ k. large_list_schema true k f) (large_list_serializable f) (large_list_nulls f) (large_list_readable f) p)
    struct_serials

-- the columns of lines that are written as a file
pub lines_serializable : (fields : List Field) (name : List ℕ) (target : TheRecord) → HasTarget fields name target → can_serialize_all fields ≡ true
lines_serializable fields name target h =
    let q = bind_some (columns_fields true 0 fields) (λ gs. Some (plain_record [] gs)) h.nameless h.recorded in
    let both = and_parts (not (eqb (length fields) 0)) (all_have_reading fields) (sym (struct_readable fields) ∙ h.readable) in
    columns_serializable fields (each_serializable fields) 0 q.0 q.1 (sym (struct_nulls fields) ∙ h.no_null) both.1
