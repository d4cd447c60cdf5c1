-- Which type each kind of schema and each logical type has, which field is nullable, and which schemas are
-- not carried, case by case.
use Rattle.std.specs.Prelude.{◌≡◌, ℕ, ◌⊎◌, ◌↔◌, List, [], ◌∷◌, length, codes, true, false, Option, Some, None}
use Rattle.std.specs.List.{AllByRecursion}
use Rattle.arrow_core.specs.declared.types.Field.{Field}
use Rattle.arrow_core.specs.declared.types.DataType.{DataType}
use Rattle.arrow_core.specs.declared.types.DataType as data_type
use Rattle.arrow_core.specs.declared.types.TimeUnit.TheVariants as unit
use Rattle.arrow_core.specs.declared.types.IntervalUnit.TheVariants as interval
use Rattle.arrow_core.specs.declared.types.IntegerType.TheVariants as integer
use Rattle.avro_schema.specs.declared.schema.Schema.{Schema, Null, Boolean, Int, Long, Float, Double, Bytes, String, Record, Enum, Array, Map, Union, Fixed}
use Rattle.avro_schema.specs.declared.schema.Record.{Record as TheRecord, out-Record}
use Rattle.avro_schema.specs.declared.schema.Enum.{Enum as TheEnum}
use Rattle.avro_schema.specs.declared.schema.IntLogical.TheVariants as int_logical
use Rattle.avro_schema.specs.declared.schema.LongLogical.TheVariants as long_logical
use Rattle.avro_schema.specs.declared.schema.BytesLogical.TheVariants as bytes_logical
use Rattle.avro_schema.specs.declared.schema.StringLogical.{StringLogical}
use Rattle.avro_schema.specs.declared.schema.StringLogical.TheVariants as string_logical
use Rattle.avro_schema.specs.declared.schema.FixedLogical.{FixedLogical}
use Rattle.avro_schema.specs.declared.schema.FixedLogical.TheVariants as fixed_logical
use Rattle.avro_schema.specs.Carried.{Carried}
use Rattle.avro_schema.specs.Types.{HasType, HasColumnType, Typed}

-- ---- types

-- values of the schema have this one type, where no large form is taken
abbrev pub HasOnlyType : Schema × DataType → Type 0
HasOnlyType p = (t : DataType) → HasType false p.0 t ↔ (t ≡ p.1)

abbrev pub flat_types : List (Schema × DataType)
flat_types =
    (Null, data_type.Null)
    ∷ (Boolean, data_type.Boolean)
    ∷ (Int None, data_type.Int32)
    ∷ (Int (Some int_logical.Date), data_type.Date32)
    ∷ (Int (Some int_logical.Time), data_type.Time32 unit.Millisecond)
    ∷ (Long None, data_type.Int64)
    ∷ (Long (Some long_logical.Time), data_type.Time64 unit.Microsecond)
    ∷ (Long (Some long_logical.TimestampMillis), data_type.Timestamp unit.Millisecond (Some (codes "00:00")))
    ∷ (Long (Some long_logical.TimestampMicros), data_type.Timestamp unit.Microsecond (Some (codes "00:00")))
    ∷ (Long (Some long_logical.TimestampNanos), data_type.Timestamp unit.Nanosecond (Some (codes "00:00")))
    ∷ (Long (Some long_logical.LocalTimestampMillis), data_type.Timestamp unit.Millisecond None)
    ∷ (Long (Some long_logical.LocalTimestampMicros), data_type.Timestamp unit.Microsecond None)
    ∷ (Long (Some long_logical.LocalTimestampNanos), data_type.Timestamp unit.Nanosecond None)
    ∷ (Float, data_type.Float32)
    ∷ (Double, data_type.Float64)
    ∷ (Bytes None, data_type.Binary)
    ∷ (String None, data_type.Utf8)
    ∷ (String (Some string_logical.Uuid), data_type.Utf8)
    ∷ []

abbrev pub fixed_of : ℕ → Option FixedLogical → Schema
fixed_of size logical = Fixed (record { name = []; namespace = None; doc = None; size = size; logical = logical })

-- the type of every kind of schema; of a union and a record `TypeComposites` says it
pub record TypeTable : Type 0 where
  pub flat : AllByRecursion HasOnlyType flat_types
  pub bytes_decimal : (precision scale : ℕ) → HasOnlyType (Bytes (Some (bytes_logical.Decimal precision scale)), data_type.Decimal precision scale)
  pub fixed : (size : ℕ) → HasOnlyType (fixed_of size None, data_type.FixedSizeBinary size)
  pub fixed_decimal : (size precision scale : ℕ) → HasOnlyType (fixed_of size (Some (fixed_logical.Decimal precision scale)), data_type.Decimal precision scale)
  pub duration : (size : ℕ) → HasOnlyType (fixed_of size (Some fixed_logical.Duration), data_type.Interval interval.MonthDayNano)
  pub symbols : (e : TheEnum) → HasOnlyType (Enum e, data_type.Dictionary integer.Int32 data_type.Utf8 false)
  pub list : (item : Schema) (t : DataType) → HasType false (Array item) t ↔ ((f : Field) × (t ≡ data_type.List f) × Typed item f)
  pub no_map : (value : Schema) (t : DataType) → HasType true (Map value) t → ⊥

-- and where large forms are taken
pub record LargeTypeTable : Type 0 where
  pub string : (logical : Option StringLogical) (t : DataType) → HasType true (String logical) t ↔ ((t ≡ data_type.Utf8) ⊎ (t ≡ data_type.LargeUtf8))
  pub bytes : (t : DataType) → HasType true (Bytes None) t ↔ ((t ≡ data_type.Binary) ⊎ (t ≡ data_type.LargeBinary))
  pub list : (item : Schema) (t : DataType) → HasType true (Array item) t ↔ ((f : Field) × ((t ≡ data_type.List f) ⊎ (t ≡ data_type.LargeList f)) × HasColumnType true item f)

-- a union alone makes a field nullable, and null may stand first or second
pub record NullableExamples : Type 0 where
  pub required : (f : Field) → Typed (Int None) f ↔ ((f.is_nullable ≡ false) × (f.data_type ≡ data_type.Int32))
  pub null_first : (f : Field) → Typed (Union (Null ∷ Int None ∷ [])) f ↔ ((f.is_nullable ≡ true) × (f.data_type ≡ data_type.Int32))
  pub null_second : (f : Field) → Typed (Union (Int None ∷ Null ∷ [])) f ↔ ((f.is_nullable ≡ true) × (f.data_type ≡ data_type.Int32))

-- ---- what is carried

abbrev pub flat_schemas : List Schema
flat_schemas = Boolean ∷ Int None ∷ Long None ∷ Float ∷ Double ∷ Bytes None ∷ String None ∷ Array (Int None) ∷ Union (Null ∷ Int None ∷ []) ∷ Union (Int None ∷ Null ∷ []) ∷ fixed_of 1 None ∷ fixed_of 12 (Some fixed_logical.Duration) ∷ []

pub record CarriedExamples : Type 0 where
  pub carried : AllByRecursion Carried flat_schemas
  pub null : Carried Null → ⊥
  pub nulls : Carried (Array Null) → ⊥
  pub map : (value : Schema) → Carried (Map value) → ⊥
  pub two_members : (members : List Schema) → Carried (Union members) → length members ≡ 2
  pub two_nulls : Carried (Union (Null ∷ Null ∷ [])) → ⊥
  pub no_null : Carried (Union (Int None ∷ Long None ∷ [])) → ⊥
  pub nested_union : Carried (Union (Null ∷ Union (Null ∷ Int None ∷ []) ∷ [])) → ⊥
  pub empty_record : (r : TheRecord) → (out-Record r).fields ≡ [] → Carried (Record r) → ⊥
  pub no_bytes : Carried (fixed_of 0 None) → ⊥
  pub empty_decimal : (precision scale : ℕ) → Carried (fixed_of 0 (Some (fixed_logical.Decimal precision scale))) → ⊥
  pub duration : (size : ℕ) → Carried (fixed_of size (Some fixed_logical.Duration)) → size ≡ 12
