-- What is asked of the schemas of which builders are made, and what is made. Contracts of private functions alone
-- cite this file.
use Rattle.std.specs.Prelude.{◌≡◌, ◌≤◌, List, [], ◌∷◌, All}
use Rattle.arrow_core.specs.declared.types.Field.{Field}
use Rattle.arrow_core.specs.declared.types.DataType.{DataType, Boolean, Int32, Int64, Date32, Time32, Time64, Timestamp, Interval, Utf8, LargeUtf8, Binary, LargeBinary, FixedSizeBinary, Decimal}
use Rattle.arrow_core.specs.declared.types.IntervalUnit.TheVariants as interval
use Rattle.arrow_builders.specs.Fits.{TypesFit}
use Rattle.arrow_builders.specs.MutableArrays.{builder_type, nodes}
use Rattle.arrow_builders.specs.Nodes.{IsEmpty}
use Rattle.arrow_builders.specs.Shapes.{shape}
use Rattle.arrow_builders.specs.declared.array.MutableArray.{MutableArray}
use Rattle.avro_schema.specs.declared.schema.AvroField.{AvroField}
use Rattle.avro_schema.specs.declared.schema.Schema.{Schema}
use Rattle.avro_schema.specs.Carried.{Carried}
use Rattle.avro_schema.specs.ValidBlock.{HasFloat, EnumsFit}
use Rattle.avro_decode.specs.Suits.{Suits}

-- the values of the schema can be kept
pub record CanBeKept (s : Schema) : Type 0 where
  pub carried : Carried s
  pub no_float : HasFloat s → ⊥
  pub symbols : EnumsFit s

-- an empty builder of the data type, which takes the schema's values, and of which an array can be made
pub record IsNewBuilder (s : Schema) (t : DataType) (b : MutableArray) : Type 0 where
  pub suits : Suits s (shape b)
  pub types_fit : TypesFit (shape b)
  pub data_type : builder_type b ≡ t
  pub empty : All IsEmpty (nodes b)

-- one for each field, in order
abbrev pub AreNewBuilders : List AvroField → List Field → List MutableArray → Type 0
AreNewBuilders [] [] [] = Unit {0}
AreNewBuilders (a ∷ avro_fields) (f ∷ fields) (b ∷ builders) = IsNewBuilder a.schema f.data_type b × AreNewBuilders avro_fields fields builders
AreNewBuilders _ _ _ = ⊥

-- the data types of flat values, those of enums aside
abbrev pub IsFlatType : DataType → Type 0
IsFlatType Boolean = Unit {0}
IsFlatType Int32 = Unit {0}
IsFlatType Date32 = Unit {0}
IsFlatType (Time32 unit) = Unit {0}
IsFlatType Int64 = Unit {0}
IsFlatType (Time64 unit) = Unit {0}
IsFlatType (Timestamp unit _) = Unit {0}
IsFlatType Utf8 = Unit {0}
IsFlatType LargeUtf8 = Unit {0}
IsFlatType Binary = Unit {0}
IsFlatType LargeBinary = Unit {0}
IsFlatType (Decimal precision scale) = Unit {0}
IsFlatType (Interval interval.MonthDayNano) = Unit {0}
IsFlatType (FixedSizeBinary size) = 1 ≤ size
IsFlatType _ = ⊥
