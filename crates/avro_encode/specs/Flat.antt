-- The encodings of slots with nothing beneath them, by how they lie in memory, and which kinds of arrays hold
-- lists and such slots. Private contracts and, through `Columns`, the model of `ColumnEncoder` cite these.
use Rattle.std.specs.Prelude.{ℕ, cond, List, [], ◌∷◌}
use Rattle.arrow_core.specs.declared.physical.PhysicalType.{PhysicalType}
use Rattle.arrow_core.specs.declared.physical.PhysicalType.TheVariants as physical
use Rattle.arrow_core.specs.declared.physical.PrimitiveType.{PrimitiveType}
use Rattle.arrow_core.specs.declared.physical.PrimitiveType.TheVariants as primitive
use Rattle.arrow_core.specs.declared.slot.Slot.{Slot}
use Rattle.avro_schema.specs.declared.schema.Schema.{Schema, Record, Array', Union'}
use Rattle.avro_container.specs.Shortest.{shortest}
use Rattle.avro_encode.specs.Decimals.{decimal}
use Rattle.avro_encode.specs.Pairs.{IsCounted, PairsDuration}
use Rattle.avro_encode.specs.Plain.{boolean_of, bytes_of, counted, integer_of, parts_of, plain_duration}

abbrev pub primitive_plain : PrimitiveType → Slot → List ℕ
primitive_plain primitive.Int32 x = shortest (integer_of x)
primitive_plain primitive.Int64 x = shortest (integer_of x)
primitive_plain primitive.Int128 x = counted (decimal (integer_of x))
primitive_plain primitive.MonthDayNano x = plain_duration (parts_of x)
primitive_plain _ x = []

abbrev pub flat_plain : PhysicalType → Slot → List ℕ
flat_plain physical.Boolean x = cond (boolean_of x) 1 0 ∷ []
flat_plain (physical.Primitive p) x = primitive_plain p x
flat_plain physical.Utf8 x = counted (bytes_of x)
flat_plain physical.LargeUtf8 x = counted (bytes_of x)
flat_plain physical.Binary x = counted (bytes_of x)
flat_plain physical.LargeBinary x = counted (bytes_of x)
flat_plain physical.FixedSizeBinary x = bytes_of x
flat_plain _ x = []

abbrev pub IsEncodedPrimitive : PrimitiveType → Type 0
IsEncodedPrimitive primitive.Int32 = Unit {0}
IsEncodedPrimitive primitive.Int64 = Unit {0}
IsEncodedPrimitive primitive.Int128 = Unit {0}
IsEncodedPrimitive primitive.MonthDayNano = Unit {0}
IsEncodedPrimitive _ = ⊥

-- slots of such a kind have an encoding, and nothing beneath them
abbrev pub IsFlatKind : PhysicalType → Type 0
IsFlatKind physical.Boolean = Unit {0}
IsFlatKind (physical.Primitive p) = IsEncodedPrimitive p
IsFlatKind physical.Utf8 = Unit {0}
IsFlatKind physical.LargeUtf8 = Unit {0}
IsFlatKind physical.Binary = Unit {0}
IsFlatKind physical.LargeBinary = Unit {0}
IsFlatKind physical.FixedSizeBinary = Unit {0}
IsFlatKind _ = ⊥

-- slots of such a kind are lists of any length
abbrev pub IsListKind : PhysicalType → Type 0
IsListKind physical.List = Unit {0}
IsListKind physical.LargeList = Unit {0}
IsListKind _ = ⊥

abbrev pub IsStructKind : PhysicalType → Type 0
IsStructKind physical.Struct = Unit {0}
IsStructKind _ = ⊥

abbrev pub FitsPrimitive : PrimitiveType → Slot → Type 0
FitsPrimitive primitive.MonthDayNano x = PairsDuration x
FitsPrimitive _ x = Unit {0}

-- an interval is whole milliseconds, and a string or binary value of any length no longer than a number counts
abbrev pub FitsFlat : PhysicalType → Slot → Type 0
FitsFlat (physical.Primitive p) x = FitsPrimitive p x
FitsFlat physical.Utf8 x = IsCounted (bytes_of x)
FitsFlat physical.LargeUtf8 x = IsCounted (bytes_of x)
FitsFlat physical.Binary x = IsCounted (bytes_of x)
FitsFlat physical.LargeBinary x = IsCounted (bytes_of x)
FitsFlat _ x = Unit {0}

-- the schema has no schemas in it
abbrev pub HasNoParts : Schema → Type 0
HasNoParts (Record r) = ⊥
HasNoParts (Array' shape item) = ⊥
HasNoParts (Union' shape members) = ⊥
HasNoParts _ = Unit {0}
