-- The Avro schema of a column by its data type, and which types can be serialized (Avro 1.11, "Schema
-- Declaration" and "Logical Types", and Avro 1.12 for nanoseconds; the pairs are arrow2's).
use Rattle.std.specs.Prelude.{ℕ, ◌+◌, ◌++◌, nat_lt, List, [], ◌∷◌, Bool, true, false, ◌&&◌, Option, Some, None, is_some, codes, decimal, if◌then◌else◌}
use Rattle.std.specs.Str.{bytes_eq}
use Rattle.arrow_core.specs.declared.error.Error.{Error}
use Rattle.arrow_core.specs.declared.error.Error.TheVariants.{NotYetImplemented, OutOfMemory}
use Rattle.arrow_core.specs.declared.error.Reason.TheVariants as reason
use Rattle.arrow_core.specs.declared.types.Field.{Field}
use Rattle.arrow_core.specs.declared.types.DataType.{DataType, Row_of-Field, end_of-Field, more_of-Field}
use Rattle.arrow_core.specs.declared.types.DataType as types
use Rattle.arrow_core.specs.declared.types.TimeUnit.{TimeUnit}
use Rattle.arrow_core.specs.declared.types.TimeUnit.TheVariants as unit
use Rattle.arrow_core.specs.declared.types.IntervalUnit.TheVariants as interval
use Rattle.avro_schema.specs.declared.schema.AvroField.{AvroField}
use Rattle.avro_schema.specs.declared.schema.Record.{Record as TheRecord, roll-Record}
use Rattle.avro_schema.specs.declared.schema.Schema.{Schema, Null, Boolean, Int, Long, Float, Double, Bytes, String, Record, Array, Union, Fixed}
use Rattle.avro_schema.specs.declared.schema.IntLogical.TheVariants as int_logical
use Rattle.avro_schema.specs.declared.schema.LongLogical.{LongLogical}
use Rattle.avro_schema.specs.declared.schema.LongLogical.TheVariants as long_logical
use Rattle.avro_schema.specs.declared.schema.BytesLogical.TheVariants as bytes_logical
use Rattle.avro_schema.specs.declared.schema.FixedLogical.{FixedLogical}
use Rattle.avro_schema.specs.declared.schema.FixedLogical.TheVariants as fixed_logical
use Rattle.avro_schema.specs.AndThen.{◌>>=◌}

-- ---- timestamps

-- instants, told in UTC
abbrev pub instants : TimeUnit → Option LongLogical
instants unit.Second = None
instants unit.Millisecond = Some long_logical.TimestampMillis
instants unit.Microsecond = Some long_logical.TimestampMicros
instants unit.Nanosecond = Some long_logical.TimestampNanos

-- readings of a local clock
abbrev pub readings : TimeUnit → Option LongLogical
readings unit.Second = None
readings unit.Millisecond = Some long_logical.LocalTimestampMillis
readings unit.Microsecond = Some long_logical.LocalTimestampMicros
readings unit.Nanosecond = Some long_logical.LocalTimestampNanos

-- by the zone of a timestamp: none, or that of UTC, 00:00
abbrev pub timestamp : TimeUnit → Option (List ℕ) → Option LongLogical
timestamp u None = readings u
timestamp u (Some zone) = if bytes_eq zone (codes "00:00") then instants u else None

-- ---- types with no type in them

-- a fixed type without a name, which `name_types` gives one
abbrev pub nameless_fixed : ℕ → Option FixedLogical → Schema
nameless_fixed size logical = Fixed (record { name = []; namespace = None; doc = None; size = size; logical = logical })

-- None: no Avro schema has such values
abbrev pub flat_schema : DataType → Option Schema
flat_schema types.Null = Some Null
flat_schema types.Boolean = Some Boolean
flat_schema types.Int32 = Some (Int None)
flat_schema types.Date32 = Some (Int (Some int_logical.Date))
flat_schema (types.Time32 unit.Millisecond) = Some (Int (Some int_logical.Time))
flat_schema types.Int64 = Some (Long None)
flat_schema (types.Time64 unit.Microsecond) = Some (Long (Some long_logical.Time))
flat_schema (types.Timestamp u zone) = (timestamp u zone >>= λ logical. Some (Long (Some logical)))
flat_schema types.Float32 = Some Float
flat_schema types.Float64 = Some Double
flat_schema types.Binary = Some (Bytes None)
flat_schema types.LargeBinary = Some (Bytes None)
flat_schema (types.Decimal precision scale) = Some (Bytes (Some (bytes_logical.Decimal precision scale)))
flat_schema types.Utf8 = Some (String None)
flat_schema types.LargeUtf8 = Some (String None)
flat_schema (types.FixedSizeBinary size) = Some (nameless_fixed size None)
flat_schema (types.Interval interval.MonthDayNano) = Some (nameless_fixed 12 (Some fixed_logical.Duration))
flat_schema _ = None

-- ---- every type

abbrev mutual
  -- how many structs stand in a type, at every depth, itself among them
  pub structs_in : DataType → ℕ
  structs_in (types.List' shape item) = structs_in_fields item
  structs_in (types.LargeList' shape item) = structs_in_fields item
  structs_in (types.Struct' shape fields) = 1 + structs_in_fields fields
  structs_in _ = 0

  pub structs_in_fields : {m : _} → Row_of-Field m → ℕ
  structs_in_fields end_of-Field = 0
  structs_in_fields (more_of-Field name t is_nullable metadata rest) = structs_in t + structs_in_fields rest

-- the schema of a nullable column is a union of null, which comes first or second, and the type's
abbrev pub optional : Bool → Bool → Schema → Schema
optional null_first false s = s
optional true true s = Union (Null ∷ s ∷ [])
optional false true s = Union (s ∷ Null ∷ [])

-- a field of a record, without a doc
abbrev pub plain_field : List ℕ → Schema → AvroField
plain_field name s = record { name = name; doc = None; schema = s }

-- a record without a namespace and a doc
abbrev pub plain_record : List ℕ → List AvroField → TheRecord
plain_record name fields = roll-Record (record { name = name; namespace = None; doc = None; fields = fields })

-- r1, r2 and so on
abbrev pub record_name : ℕ → List ℕ
record_name k = codes "r" ++ decimal k

-- `null_first` says where null stands in unions. k records have names already: structs are numbered in preorder,
-- each before those in its fields.
abbrev mutual
  pub schema_of : Bool → ℕ → DataType → Option Schema
  schema_of null_first k (types.List' shape item) = (item_schema null_first k item >>= λ s. Some (Array s))
  schema_of null_first k (types.LargeList' shape item) = (item_schema null_first k item >>= λ s. Some (Array s))
  schema_of null_first k (types.Struct' shape fields) = (row_schemas null_first (k + 1) fields >>= λ fs. Some (Record (plain_record (record_name (k + 1)) fs)))
  schema_of null_first k t = flat_schema t

  -- the schema of a list's items, by the one field that the list has
  pub item_schema : {m : _} → Bool → ℕ → Row_of-Field m → Option Schema
  item_schema null_first k end_of-Field = None
  item_schema null_first k (more_of-Field name t is_nullable metadata rest) = (schema_of null_first k t >>= λ s. Some (optional null_first is_nullable s))

  -- the fields of a struct, in order
  pub row_schemas : {m : _} → Bool → ℕ → Row_of-Field m → Option (List AvroField)
  row_schemas null_first k end_of-Field = Some []
  row_schemas null_first k (more_of-Field name t is_nullable metadata rest) =
      (schema_of null_first k t >>= λ s. row_schemas null_first (k + structs_in t) rest >>= λ fs. Some (plain_field name (optional null_first is_nullable s) ∷ fs))

-- ---- columns

-- the schema of a column; metadata plays no part
abbrev pub column_schema : Bool → ℕ → Field → Option Schema
column_schema null_first k f = (schema_of null_first k f.data_type >>= λ s. Some (optional null_first f.is_nullable s))

-- the fields of a record of columns, in order
abbrev pub columns_fields : Bool → ℕ → List Field → Option (List AvroField)
columns_fields null_first k [] = Some []
columns_fields null_first k (f ∷ rest) =
    (column_schema null_first k f >>= λ s. columns_fields null_first (k + structs_in f.data_type) rest >>= λ fs. Some (plain_field f.name s ∷ fs))

-- the record of columns, whose name is empty. None: at some depth a type stands that no Avro schema has.
abbrev pub record_of : Bool → List Field → Option TheRecord
record_of null_first fields = (columns_fields null_first 0 fields >>= λ fs. Some (plain_record [] fs))

-- NoAvroType comes where P holds alone; out of memory may come at any time
abbrev pub NoAvroTypeWhere : Type 0 → Error → Type 0
NoAvroTypeWhere P (NotYetImplemented reason.NoAvroType) = P
NoAvroTypeWhere P OutOfMemory = Unit {0}
NoAvroTypeWhere P _ = ⊥

-- ---- which types can be serialized

abbrev pub has_field : {m : _} → Row_of-Field m → Bool
has_field end_of-Field = false
has_field (more_of-Field name t is_nullable metadata rest) = true

abbrev mutual
  pub can_serialize : DataType → Bool
  can_serialize types.Boolean = true
  can_serialize types.Int32 = true
  can_serialize types.Date32 = true
  can_serialize (types.Time32 unit.Millisecond) = true
  can_serialize types.Int64 = true
  can_serialize (types.Time64 unit.Microsecond) = true
  can_serialize (types.Timestamp u zone) = is_some (timestamp u zone)
  can_serialize types.Binary = true
  can_serialize types.LargeBinary = true
  can_serialize (types.Decimal precision scale) = true
  can_serialize types.Utf8 = true
  can_serialize types.LargeUtf8 = true
  can_serialize (types.FixedSizeBinary size) = nat_lt 0 size
  can_serialize (types.Interval interval.MonthDayNano) = true
  can_serialize (types.List' shape item) = can_serialize_row item
  can_serialize (types.LargeList' shape item) = can_serialize_row item
  can_serialize (types.Struct' shape fields) = has_field fields && can_serialize_row fields
  can_serialize _ = false

  -- the type of each field can be serialized
  pub can_serialize_row : {m : _} → Row_of-Field m → Bool
  can_serialize_row end_of-Field = true
  can_serialize_row (more_of-Field name t is_nullable metadata rest) = can_serialize t && can_serialize_row rest
