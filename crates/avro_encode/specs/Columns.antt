-- What the slots of a column become, by how they lie in memory and where null may stand. Private contracts and the
-- model of `ColumnEncoder` cite these.
use Rattle.std.specs.Prelude.{ℕ, ◌<◌, List, length}
use Rattle.arrow_core.specs.declared.physical.PhysicalType.{PhysicalType}
use Rattle.arrow_core.specs.declared.physical.PhysicalType.TheVariants as physical
use Rattle.arrow_core.specs.declared.physical.PrimitiveType.TheVariants as primitive
use Rattle.arrow_core.specs.declared.slot.Slot.{Slot}
use Rattle.arrow_array.specs.Arrays.{array_slots, array_type}
use Rattle.arrow_array.specs.Slots.{slot_at}
use Rattle.avro_encode.specs.Flat.{FitsFlat, flat_plain}
use Rattle.avro_encode.specs.Nullable.{FitsNulls, nullable_encoding}
use Rattle.avro_encode.specs.Pairs.{Pairs}
use Rattle.avro_encode.specs.PairTypes.{PairsType}
use Rattle.avro_encode.specs.Plain.{plain}
use Rattle.avro_encode.specs.declared.column.ColumnKind.{ColumnKind}
use Rattle.avro_encode.specs.declared.column.ColumnKind.TheVariants as column
use Rattle.avro_encode.specs.declared.nulls.Nulls.{Nulls}

abbrev pub column_slots : ColumnKind → List Slot
column_slots (column.Boolean a) = a.now.slots
column_slots (column.Int32 a) = a.now.slots
column_slots (column.Int64 a) = a.now.slots
column_slots (column.Int128 a) = a.now.slots
column_slots (column.MonthDayNano a) = a.now.slots
column_slots (column.Utf8 a) = a.now.slots
column_slots (column.LargeUtf8 a) = a.now.slots
column_slots (column.Binary a) = a.now.slots
column_slots (column.LargeBinary a) = a.now.slots
column_slots (column.FixedSizeBinary a) = a.now.slots
column_slots (column.Nested a s) = array_slots a.now

-- how slots with nothing beneath them lie
abbrev pub flat_kind : ColumnKind → PhysicalType
flat_kind (column.Boolean a) = physical.Boolean
flat_kind (column.Int32 a) = physical.Primitive primitive.Int32
flat_kind (column.Int64 a) = physical.Primitive primitive.Int64
flat_kind (column.Int128 a) = physical.Primitive primitive.Int128
flat_kind (column.MonthDayNano a) = physical.Primitive primitive.MonthDayNano
flat_kind (column.Utf8 a) = physical.Utf8
flat_kind (column.LargeUtf8 a) = physical.LargeUtf8
flat_kind (column.Binary a) = physical.Binary
flat_kind (column.LargeBinary a) = physical.LargeBinary
flat_kind (column.FixedSizeBinary a) = physical.FixedSizeBinary
flat_kind (column.Nested a s) = physical.Null

-- the encoding of a slot
abbrev pub column_encoding : Nulls → ColumnKind → Slot → List ℕ
column_encoding n (column.Nested a s) x = plain s x
column_encoding n k x = nullable_encoding n (flat_plain (flat_kind k)) x

-- the slot has one
abbrev pub FitsColumn : Nulls → ColumnKind → Slot → Type 0
FitsColumn n (column.Nested a s) x = PairsType s (array_type a.now) × Pairs s x
FitsColumn n k x = FitsNulls n (FitsFlat (flat_kind k)) x

-- each slot has one
abbrev pub FitColumn : Nulls → ColumnKind → Type 0
FitColumn n k = (i : ℕ) → i < length (column_slots k) → FitsColumn n k (slot_at (column_slots k) i)
