-- Which data types pair with a schema, so that columns of the type can be written under it (the pairs are
-- arrow2's; Avro 1.11, "Schema Declaration").
use Rattle.std.specs.Prelude.{◌≡◌, ℕ, true, List, [], ◌∷◌, Option, Some, None, ◌⊎◌}
use Rattle.arrow_core.specs.declared.physical.PhysicalType.TheVariants as physical
use Rattle.arrow_core.specs.declared.physical.PrimitiveType.TheVariants as primitive
use Rattle.arrow_core.specs.declared.types.DataType.{DataType, Row_of-Field, end_of-Field, more_of-Field}
use Rattle.arrow_core.specs.declared.types.DataType as types
use Rattle.arrow_core.specs.declared.types.IntervalUnit.TheVariants as interval
use Rattle.arrow_core.specs.Layouts.{physical_type}
use Rattle.avro_schema.specs.declared.schema.Schema.{Schema, Null, Boolean, Int, Long, Float, Double, Bytes, String, Record, Enum, Array', Map', Union', Fixed, Row_of-Schema, end_of-Schema, more_of-Schema}
use Rattle.avro_schema.specs.declared.schema.Record.{Record as TheRecord, Record', Row_of-AvroField, end_of-AvroField, more_of-AvroField}
use Rattle.avro_schema.specs.declared.schema.BytesLogical.{BytesLogical}
use Rattle.avro_schema.specs.declared.schema.BytesLogical.TheVariants as bytes_logical
use Rattle.avro_schema.specs.declared.schema.FixedLogical.{FixedLogical}
use Rattle.avro_schema.specs.declared.schema.FixedLogical.TheVariants as fixed_logical
use Rattle.avro_schema.specs.Encodes.{IsNull}
use Rattle.avro_schema.specs.Carried.{IsNoUnion}
use Rattle.avro_schema.specs.Types.{IsBinary, IsString}

-- binary values in small or large form; a decimal, whose precision and scale are not compared
abbrev pub PairsBytesType : Option BytesLogical → DataType → Type 0
PairsBytesType None t = IsBinary true t
PairsBytesType (Some (bytes_logical.Decimal precision scale)) t = (p : ℕ) × (s : ℕ) × (t ≡ types.Decimal p s)

abbrev pub PairsFixedType : ℕ → Option FixedLogical → DataType → Type 0
PairsFixedType size None t = t ≡ types.FixedSizeBinary size
PairsFixedType size (Some fixed_logical.Duration) t = t ≡ types.Interval interval.MonthDayNano
PairsFixedType size (Some (fixed_logical.Decimal precision scale)) t = ⊥

-- ---- the types within a type

abbrev pub first_type : {m : _} → Row_of-Field m → Option DataType
first_type end_of-Field = None
first_type (more_of-Field name t is_nullable metadata rest) = Some t

-- the type of a list's items, in small or large form
abbrev pub item_type : DataType → Option DataType
item_type (types.List' shape item) = first_type item
item_type (types.LargeList' shape item) = first_type item
item_type _ = None

abbrev pub row_types : {m : _} → Row_of-Field m → List DataType
row_types end_of-Field = []
row_types (more_of-Field name t is_nullable metadata rest) = t ∷ row_types rest

-- the types of a struct's columns, in order; names, nullability and metadata do not count
abbrev pub column_types : DataType → Option (List DataType)
column_types (types.Struct' shape columns) = Some (row_types columns)
column_types _ = None

-- ---- every schema

abbrev mutual
  -- of int and long the logical type plays no part
  pub PairsType : Schema → DataType → Type 0
  PairsType Boolean t = t ≡ types.Boolean
  PairsType (Int logical) t = physical_type t ≡ physical.Primitive primitive.Int32
  PairsType (Long logical) t = physical_type t ≡ physical.Primitive primitive.Int64
  PairsType (Bytes logical) t = PairsBytesType logical t
  PairsType (String logical) t = IsString true t
  PairsType (Record r) t = PairsRecordType r (column_types t)
  PairsType (Array' shape item) t = PairsItemType item (item_type t)
  PairsType (Union' shape members) t = PairsMemberType members t
  PairsType (Fixed f) t = PairsFixedType f.size f.logical t
  PairsType Null t = ⊥
  PairsType Float t = ⊥
  PairsType Double t = ⊥
  PairsType (Enum e) t = ⊥
  PairsType (Map' shape value) t = ⊥

  -- the one schema of an array, and the type of a list's items
  pub PairsItemType : {m : _} → Row_of-Schema m → Option DataType → Type 0
  PairsItemType (more_of-Schema s rest) (Some t) = PairsType s t
  PairsItemType _ _ = ⊥

  pub PairsRecordType : TheRecord → Option (List DataType) → Type 0
  PairsRecordType (Record' name namespace doc shape fields) (Some ts) = PairsFieldTypes fields ts
  PairsRecordType _ None = ⊥

  -- as many fields, in order
  pub PairsFieldTypes : {m : _} → Row_of-AvroField m → List DataType → Type 0
  PairsFieldTypes end_of-AvroField [] = Unit {0}
  PairsFieldTypes (more_of-AvroField name doc s rest) (t ∷ ts) = PairsType s t × PairsFieldTypes rest ts
  PairsFieldTypes _ _ = ⊥

  -- the member beside null in a union of two, which is itself no union
  pub PairsMemberType : {m : _} → Row_of-Schema m → DataType → Type 0
  PairsMemberType (more_of-Schema s (more_of-Schema u end_of-Schema)) t =
      (IsNull s × IsNoUnion u × PairsType u t) ⊎ (IsNull u × IsNoUnion s × PairsType s t)
  PairsMemberType _ t = ⊥
