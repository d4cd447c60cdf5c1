-- Where the sizes and decimals of types are those that a text may give, so are those of the record that columns of these types
-- have.
use Rattle.std.proofs.Common.{◌≡◌, ◌∙◌, ℕ, ◌+◌, Bool, true, false, ◌&&◌, nat_le, List, [], ◌∷◌, map, Option, Some, None, refl, sym, ap, subst}
use Rattle.std.proofs.lemmas.Option.{none-some, same_Some}
use Rattle.arrow_core.specs.declared.types.DataType.{DataType}
use Rattle.arrow_core.specs.declared.types.DataType as types
use Rattle.arrow_core.specs.declared.types.Field.{Field}
use Rattle.arrow_core.specs.declared.types.IntervalUnit.TheVariants as interval
use Rattle.arrow_core.specs.declared.types.TimeUnit.TheVariants as unit
use Rattle.avro_schema.specs.declared.schema.AvroField.{AvroField, fold-AvroField, fold-roll-AvroField, out-AvroField, roll-out-AvroField}
use Rattle.avro_schema.specs.declared.schema.BytesLogical.TheVariants as bytes
use Rattle.avro_schema.specs.declared.schema.Fixed.{Fixed}
use Rattle.avro_schema.specs.declared.schema.IntLogical.{IntLogical}
use Rattle.avro_schema.specs.declared.schema.LongLogical.{LongLogical}
use Rattle.avro_schema.specs.declared.schema.Record.{Record as TheRecord, Record-F, fold-Record, fold-roll-Record, out-Record, out-roll-Record, roll-Record}
use Rattle.avro_schema.specs.declared.schema.Schema.{Schema, Null, Long, Record, Array, Union, fold-roll-Schema}
use Rattle.avro_schema.specs.declared.schema.Schema.TheOpen as layer
use Rattle.avro_schema.specs.declared.schema.Schema.TheVariants as variant
use Rattle.avro_schema.specs.AndThen.{◌>>=◌}
use Rattle.avro_schema.proofs.Basics.{bind_some}
use Rattle.avro_file.specs.Writable.{all_fit, field_fits_step, fits_step, is_decimal, logical_fits, numbers_fit, record_fits_step}
use Rattle.avro_types.specs.Listed.{HasNoFields, array_schema, named_all}
use Rattle.avro_types.specs.Named.{named, named_record, named_root, nameless_in}
use Rattle.avro_types.specs.Schemas.{column_schema, columns_fields, optional, plain_field, plain_record, record_name, record_of, schema_of, structs_in, timestamp}
use Rattle.avro_types.proofs.ByFields.{struct_schema_is}
use Rattle.avro_types.proofs.Renamed.{array_named, record_named, union_named}
use Rattle.arrow_convert.proofs.ByParts.{EachType}

-- ---- what the definition says of each schema

fits_null : numbers_fit variant.Null ≡ true
unfolding numbers_fit
fits_null = ap numbers_fit (sym variant.rolls-Null) ∙ fold-roll-Schema Bool Bool Bool fits_step field_fits_step record_fits_step layer.Null

fits_boolean : numbers_fit variant.Boolean ≡ true
unfolding numbers_fit
fits_boolean = ap numbers_fit (sym variant.rolls-Boolean) ∙ fold-roll-Schema Bool Bool Bool fits_step field_fits_step record_fits_step layer.Boolean

fits_int : (logical : Option IntLogical) → numbers_fit (variant.Int logical) ≡ true
unfolding numbers_fit
fits_int logical = ap numbers_fit (sym (variant.rolls-Int logical)) ∙ fold-roll-Schema Bool Bool Bool fits_step field_fits_step record_fits_step (layer.Int logical)

fits_long : (logical : Option LongLogical) → numbers_fit (variant.Long logical) ≡ true
unfolding numbers_fit
fits_long logical = ap numbers_fit (sym (variant.rolls-Long logical)) ∙ fold-roll-Schema Bool Bool Bool fits_step field_fits_step record_fits_step (layer.Long logical)

fits_float : numbers_fit variant.Float ≡ true
unfolding numbers_fit
fits_float = ap numbers_fit (sym variant.rolls-Float) ∙ fold-roll-Schema Bool Bool Bool fits_step field_fits_step record_fits_step layer.Float

fits_double : numbers_fit variant.Double ≡ true
unfolding numbers_fit
fits_double = ap numbers_fit (sym variant.rolls-Double) ∙ fold-roll-Schema Bool Bool Bool fits_step field_fits_step record_fits_step layer.Double

fits_bytes : numbers_fit (variant.Bytes None) ≡ true
unfolding numbers_fit
fits_bytes = ap numbers_fit (sym (variant.rolls-Bytes None)) ∙ fold-roll-Schema Bool Bool Bool fits_step field_fits_step record_fits_step (layer.Bytes None)

fits_decimal : (precision scale : ℕ) → numbers_fit (variant.Bytes (Some (bytes.Decimal precision scale))) ≡ is_decimal precision scale
unfolding numbers_fit
fits_decimal precision scale =
    ap numbers_fit (sym (variant.rolls-Bytes (Some (bytes.Decimal precision scale))))
    ∙ fold-roll-Schema Bool Bool Bool fits_step field_fits_step record_fits_step (layer.Bytes (Some (bytes.Decimal precision scale)))

fits_string : numbers_fit (variant.String None) ≡ true
unfolding numbers_fit
fits_string = ap numbers_fit (sym (variant.rolls-String None)) ∙ fold-roll-Schema Bool Bool Bool fits_step field_fits_step record_fits_step (layer.String None)

fits_fixed : (f : Fixed) → nat_le f.size 2147483647 ≡ true → logical_fits f.size f.logical ≡ true → numbers_fit (variant.Fixed f) ≡ true
unfolding numbers_fit
fits_fixed f size logical =
    ap numbers_fit (sym (variant.rolls-Fixed f)) ∙ fold-roll-Schema Bool Bool Bool fits_step field_fits_step record_fits_step (layer.Fixed f) ∙ both (nat_le f.size 2147483647) (logical_fits f.size f.logical) size logical
  where
    both : (a b : Bool) → a ≡ true → b ≡ true → (a && b) ≡ true
    both a b e h = rw (e, h) refl

fits_array : (s : Schema) → numbers_fit (variant.Array s) ≡ numbers_fit s
unfolding numbers_fit
fits_array s = ap numbers_fit (sym (variant.rolls-Array s)) ∙ fold-roll-Schema Bool Bool Bool fits_step field_fits_step record_fits_step (layer.Array s)

fits_union : (ms : List Schema) → numbers_fit (variant.Union ms) ≡ all_fit (map numbers_fit ms)
unfolding numbers_fit
fits_union ms = ap numbers_fit (sym (variant.rolls-Union ms)) ∙ fold-roll-Schema Bool Bool Bool fits_step field_fits_step record_fits_step (layer.Union ms)

abbrev record_fits : TheRecord → Bool
record_fits = fold-Record Bool Bool Bool fits_step field_fits_step record_fits_step

abbrev field_fits : AvroField → Bool
field_fits = fold-AvroField Bool Bool Bool fits_step field_fits_step record_fits_step

fits_record : (r : TheRecord) → numbers_fit (variant.Record r) ≡ record_fits r
unfolding numbers_fit
fits_record r = ap numbers_fit (sym (variant.rolls-Record r)) ∙ fold-roll-Schema Bool Bool Bool fits_step field_fits_step record_fits_step (layer.Record r)

fits_rolled : (x : Record-F Schema AvroField TheRecord) → record_fits (roll-Record x) ≡ all_fit (map field_fits x.fields)
fits_rolled x = fold-roll-Record Bool Bool Bool fits_step field_fits_step record_fits_step x

fits_field : (g : AvroField) → field_fits g ≡ numbers_fit g.schema
unfolding numbers_fit
fits_field g = ap field_fits (sym (roll-out-AvroField g)) ∙ fold-roll-AvroField Bool Bool Bool fits_step field_fits_step record_fits_step (out-AvroField g)

-- ---- types with no types in them

-- the schema of a type, where it has one, once its fixed types have names
abbrev pub Fits : DataType → Type 0
Fits t = (k n : ℕ) (s : Schema) → schema_of true k t ≡ Some s → numbers_fit (named n s) ≡ true

-- what a type says itself of sizes and decimals
abbrev pub type_fits : DataType → Bool
type_fits (types.FixedSizeBinary size) = nat_le size 2147483647
type_fits (types.Decimal precision scale) = is_decimal precision scale
type_fits _ = true

made : (n : ℕ) (a s : Schema) → Some a ≡ Some s → numbers_fit (named n a) ≡ true → numbers_fit (named n s) ≡ true
made n a s e h = subst (λ z. numbers_fit (named n z) ≡ true) (same_Some a s e) h

pub flat_fits : (t : DataType) → HasNoFields t → type_fits t ≡ true → Fits t
flat_fits types.Null x h k n s e = made n _ s e fits_null
flat_fits types.Boolean x h k n s e = made n _ s e fits_boolean
flat_fits types.Int32 x h k n s e = made n _ s e (fits_int _)
flat_fits types.Date32 x h k n s e = made n _ s e (fits_int _)
flat_fits (types.Time32 unit.Millisecond) x h k n s e = made n _ s e (fits_int _)
flat_fits types.Int64 x h k n s e = made n _ s e (fits_long _)
flat_fits (types.Time64 unit.Microsecond) x h k n s e = made n _ s e (fits_long _)
flat_fits (types.Timestamp u zone) x h k n s e = let q = bind_some (timestamp u zone) (λ logical. Some (Long (Some logical))) s e in made n _ s q.2 (fits_long _)
flat_fits types.Float32 x h k n s e = made n _ s e fits_float
flat_fits types.Float64 x h k n s e = made n _ s e fits_double
flat_fits types.Binary x h k n s e = made n _ s e fits_bytes
flat_fits types.LargeBinary x h k n s e = made n _ s e fits_bytes
flat_fits (types.Decimal precision scale) x h k n s e = made n _ s e (fits_decimal precision scale ∙ h)
flat_fits types.Utf8 x h k n s e = made n _ s e fits_string
flat_fits types.LargeUtf8 x h k n s e = made n _ s e fits_string
flat_fits (types.FixedSizeBinary size) x h k n s e = made n _ s e (fits_fixed _ h refl)
flat_fits (types.Interval interval.MonthDayNano) x h k n s e = made n _ s e (fits_fixed _ refl refl)
flat_fits (types.List' shape item) x h k n s e = absurd x
flat_fits (types.LargeList' shape item) x h k n s e = absurd x
flat_fits (types.Struct' shape fields) x h k n s e = absurd x
flat_fits _ x h k n s e = absurd (none-some s e)

-- ---- lists and structs

-- a column, by its type
column_fits : (f : Field) → Fits f.data_type → (k n : ℕ) (z : Schema) → column_schema true k f ≡ Some z → numbers_fit (named n z) ≡ true
column_fits f one k n z e =
    let p = bind_some (schema_of true k f.data_type) (λ s. Some (optional true f.is_nullable s)) z e in
    subst (λ y. numbers_fit (named n y) ≡ true) (same_Some _ z p.2) (from f.is_nullable p.0 (λ m. one k m p.0 p.1))
  where
    from : (null : Bool) (s : Schema) → ((m : ℕ) → numbers_fit (named m s) ≡ true) → numbers_fit (named n (optional true null s)) ≡ true
    from false s fits = fits n
    from true s fits = ap numbers_fit (union_named n (Null ∷ s ∷ [])) ∙ fits_union (Null ∷ named (n + 0) s ∷ []) ∙ (rw (fits_null, fits (n + 0)) refl)

-- a type of lists of this field
pub listed_fits : (t : DataType) (f : Field) → ((k : ℕ) → schema_of true k t ≡ array_schema true k f) → Fits f.data_type → Fits t
listed_fits t f schema one k n s e =
    let q = bind_some (column_schema true k f) (λ z. Some (Array z)) s (sym (schema k) ∙ e) in
    made n (Array q.0) s q.2 (ap numbers_fit (array_named n q.0) ∙ fits_array (named n q.0) ∙ column_fits f one k n q.0 q.1)

columns_fit : (fs : List Field) → EachType Fits fs → (k n : ℕ) (gs : List AvroField) → columns_fields true k fs ≡ Some gs → all_fit (map field_fits (named_all n gs)) ≡ true
columns_fit [] all k n gs e = subst (λ (done : List AvroField). all_fit (map field_fits (named_all n done)) ≡ true) (same_Some [] gs e) refl
columns_fit (f ∷ fs) all k n gs e =
    let q = bind_some (column_schema true k f) (λ z. columns_fields true (k + structs_in f.data_type) fs >>= λ more. Some (plain_field f.name z ∷ more)) gs e in
    let r = bind_some (columns_fields true (k + structs_in f.data_type) fs) (λ more. Some (plain_field f.name q.0 ∷ more)) gs q.2 in
    let one : field_fits (record { name = f.name; doc = None; schema = named n q.0 }) ≡ true = fits_field (record { name = f.name; doc = None; schema = named n q.0 }) ∙ column_fits f all.0 k n q.0 q.1 in
    let more = columns_fit fs all.1 (k + structs_in f.data_type) (n + nameless_in q.0) r.0 r.1 in
    subst (λ (done : List AvroField). all_fit (map field_fits (named_all n done)) ≡ true) (same_Some _ gs r.2) (rw (one, more) refl)

named_fit : (n : ℕ) (name : List ℕ) (gs : List AvroField) → all_fit (map field_fits (named_all n gs)) ≡ true → record_fits (named_record n (plain_record name gs)) ≡ true
named_fit n name gs h =
    ap record_fits (record_named n (plain_record name gs)) ∙ fits_rolled _ ∙ ap (λ (done : List AvroField). all_fit (map field_fits (named_all n done))) (ap (λ o. o.fields) (out-roll-Record _)) ∙ h

pub struct_fits : (fs : List Field) → EachType Fits fs → Fits (types.Struct fs)
struct_fits fs all k n s e =
    let name = record_name (k + 1) in
    let q = bind_some (columns_fields true (k + 1) fs) (λ gs. Some (Record (plain_record name gs))) s (sym (struct_schema_is true k fs) ∙ e) in
    made n (Record (plain_record name q.0)) s q.2 (fits_record (named_record n (plain_record name q.0)) ∙ named_fit n name q.0 (columns_fit fs all (k + 1) n q.0 q.1))

-- ---- the record of columns

pub target_fits : (fields : List Field) (name : List ℕ) (nameless target : TheRecord) → record_of true fields ≡ Some nameless → target ≡ named_root name nameless → EachType Fits fields → numbers_fit (Record target) ≡ true
target_fits fields name nameless target recorded named_so all =
    let q = bind_some (columns_fields true 0 fields) (λ gs. Some (plain_record [] gs)) nameless recorded in
    let each = columns_fit fields all 0 0 q.0 q.1 in
    let are : (out-Record (named_record 0 (plain_record [] q.0))).fields ≡ named_all 0 q.0 =
    ap (λ (r : TheRecord). (out-Record r).fields) (record_named 0 (plain_record [] q.0)) ∙ ap (λ o. o.fields) (out-roll-Record _) ∙ ap (named_all 0) (ap (λ o. o.fields) (out-roll-Record _)) in
    let is : target ≡ named_root name (plain_record [] q.0) = named_so ∙ ap (named_root name) (sym (same_Some _ nameless q.2)) in
    fits_record target ∙ ap record_fits is ∙ fits_rolled _ ∙ ap (λ (gs : List AvroField). all_fit (map field_fits gs)) are ∙ each
