-- Which data type and which nullability a column has whose values a schema encodes (Avro 1.11,
-- "Primitive Types", "Complex Types" and "Logical Types"; Arrow columnar format, "Logical types"; the
-- pairs are arrow2's).
use Rattle.std.specs.Prelude.{◌≡◌, ℕ, ◌⊎◌, List, [], ◌∷◌, Bool, true, false, IsTrue, Option, Some, None}
use Rattle.std.specs.List.{AllZip}
use Rattle.arrow_core.specs.declared.types.Field.{Field}
use Rattle.arrow_core.specs.declared.types.DataType.{DataType}
use Rattle.arrow_core.specs.declared.types.DataType as data_type
use Rattle.arrow_core.specs.declared.types.TimeUnit.TheVariants as unit
use Rattle.arrow_core.specs.declared.types.IntervalUnit.TheVariants as interval
use Rattle.arrow_core.specs.declared.types.IntegerType.TheVariants as integer
use Rattle.avro_schema.specs.declared.schema.AvroField.{AvroField}
use Rattle.avro_schema.specs.declared.schema.Schema.{Schema, Null, Boolean, Int, Long, Float, Double, Bytes, String, Record, Enum, Array', Map', Union', Fixed, Row_of-Schema, end_of-Schema, more_of-Schema}
use Rattle.avro_schema.specs.declared.schema.Record.{Record as TheRecord, Record', Row_of-AvroField, end_of-AvroField, more_of-AvroField}
use Rattle.avro_schema.specs.declared.schema.IntLogical.{IntLogical}
use Rattle.avro_schema.specs.declared.schema.IntLogical.TheVariants as int_logical
use Rattle.avro_schema.specs.declared.schema.LongLogical.{LongLogical}
use Rattle.avro_schema.specs.declared.schema.LongLogical.TheVariants as long_logical
use Rattle.avro_schema.specs.declared.schema.BytesLogical.{BytesLogical}
use Rattle.avro_schema.specs.declared.schema.BytesLogical.TheVariants as bytes_logical
use Rattle.avro_schema.specs.declared.schema.FixedLogical.{FixedLogical}
use Rattle.avro_schema.specs.declared.schema.FixedLogical.TheVariants as fixed_logical
use Rattle.avro_schema.specs.Encodes.{IsNull}

-- ---- flat kinds

abbrev pub int_type : Option IntLogical → DataType
int_type None = data_type.Int32
int_type (Some int_logical.Date) = data_type.Date32
int_type (Some int_logical.Time) = data_type.Time32 unit.Millisecond

-- the time zone of UTC, 00:00
abbrev pub utc : Option (List ℕ)
utc = Some (0x30 ∷ 0x30 ∷ 0x3a ∷ 0x30 ∷ 0x30 ∷ [])

abbrev pub long_type : Option LongLogical → DataType
long_type None = data_type.Int64
long_type (Some long_logical.Time) = data_type.Time64 unit.Microsecond
long_type (Some long_logical.TimestampMillis) = data_type.Timestamp unit.Millisecond utc
long_type (Some long_logical.TimestampMicros) = data_type.Timestamp unit.Microsecond utc
long_type (Some long_logical.TimestampNanos) = data_type.Timestamp unit.Nanosecond utc
long_type (Some long_logical.LocalTimestampMillis) = data_type.Timestamp unit.Millisecond None
long_type (Some long_logical.LocalTimestampMicros) = data_type.Timestamp unit.Microsecond None
long_type (Some long_logical.LocalTimestampNanos) = data_type.Timestamp unit.Nanosecond None

abbrev pub fixed_type : ℕ → Option FixedLogical → DataType
fixed_type size None = data_type.FixedSizeBinary size
fixed_type size (Some (fixed_logical.Decimal precision scale)) = data_type.Decimal precision scale
fixed_type size (Some fixed_logical.Duration) = data_type.Interval interval.MonthDayNano

-- an enum's symbols: a dictionary of strings with keys of 32 bits
abbrev pub symbol_type : DataType
symbol_type = data_type.Dictionary integer.Int32 data_type.Utf8 false

-- ---- small and large forms

-- strings, binary values and lists have a type with 32-bit offsets and a large one with 64-bit offsets;
-- `large` says whether the large one is taken too
abbrev pub IsString : Bool → DataType → Type 0
IsString large t = (t ≡ data_type.Utf8) ⊎ (IsTrue large × (t ≡ data_type.LargeUtf8))

abbrev pub IsBinary : Bool → DataType → Type 0
IsBinary large t = (t ≡ data_type.Binary) ⊎ (IsTrue large × (t ≡ data_type.LargeBinary))

abbrev pub IsListOf : Bool → Field → DataType → Type 0
IsListOf large item t = (t ≡ data_type.List item) ⊎ (IsTrue large × (t ≡ data_type.LargeList item))

abbrev pub HasBytesType : Bool → Option BytesLogical → DataType → Type 0
HasBytesType large None t = IsBinary large t
HasBytesType large (Some (bytes_logical.Decimal precision scale)) t = t ≡ data_type.Decimal precision scale

-- ---- every kind

abbrev pub is_union : Schema → Bool
is_union (Union' shape members) = true
is_union _ = false

abbrev mutual
  -- values of the schema have the type, those that are null aside
  pub HasType : Bool → Schema → DataType → Type 0
  HasType large Null t = t ≡ data_type.Null
  HasType large Boolean t = t ≡ data_type.Boolean
  HasType large (Int logical) t = t ≡ int_type logical
  HasType large (Long logical) t = t ≡ long_type logical
  HasType large Float t = t ≡ data_type.Float32
  HasType large Double t = t ≡ data_type.Float64
  HasType large (Bytes logical) t = HasBytesType large logical t
  HasType large (String logical) t = IsString large t
  HasType large (Record r) t = (fields : List Field) × (t ≡ data_type.Struct fields) × HasRecordType large r fields
  HasType large (Enum e) t = t ≡ symbol_type
  HasType large (Array' shape item) t = (f : Field) × IsListOf large f t × HasItemType large item f
  HasType large (Map' shape value) t = ⊥
  HasType large (Union' shape members) t = HasMemberType large members t
  HasType large (Fixed f) t = t ≡ fixed_type f.size f.logical

  -- a union's null has no type, but makes its field nullable; its other member has the type
  pub HasMemberType : {m : _} → Bool → Row_of-Schema m → DataType → Type 0
  HasMemberType large (more_of-Schema s (more_of-Schema u end_of-Schema)) t = (IsNull s × HasType large u t) ⊎ (HasType large s t × IsNull u)
  HasMemberType large _ t = ⊥

  pub HasItemType : {m : _} → Bool → Row_of-Schema m → Field → Type 0
  HasItemType large end_of-Schema f = ⊥
  HasItemType large (more_of-Schema s rest) f = (f.is_nullable ≡ is_union s) × HasType large s f.data_type

  pub HasRecordType : Bool → TheRecord → List Field → Type 0
  HasRecordType large (Record' name namespace doc shape fields) fs = HasFieldTypes large fields fs

  -- as many fields in order
  pub HasFieldTypes : {m : _} → Bool → Row_of-AvroField m → List Field → Type 0
  HasFieldTypes large end_of-AvroField [] = Unit {0}
  HasFieldTypes large end_of-AvroField (f ∷ fs) = ⊥
  HasFieldTypes large (more_of-AvroField name doc s rest) [] = ⊥
  HasFieldTypes large (more_of-AvroField name doc s rest) (f ∷ fs) = ((f.is_nullable ≡ is_union s) × HasType large s f.data_type) × HasFieldTypes large rest fs

-- a field has the type and the nullability of the schema, at every depth; names and metadata do not
-- count
abbrev pub HasColumnType : Bool → Schema → Field → Type 0
HasColumnType large s f = (f.is_nullable ≡ is_union s) × HasType large s f.data_type

-- in small forms alone, as columns are made where nobody says otherwise
abbrev pub Typed : Schema → Field → Type 0
Typed s f = HasColumnType false s f

-- in small or large forms
abbrev pub Fits : List Field → List AvroField → Type 0
Fits = AllZip (λ f a. HasColumnType true a.schema f)
