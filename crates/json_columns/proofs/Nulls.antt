-- `null` is a null under any type.
use Rattle.std.proofs.Common.{◌≡◌, refl, ap, ◌∙◌}
use Rattle.arrow_core.specs.declared.slot.Slot.TheVariants as slot
use Rattle.arrow_core.specs.declared.types.DataType.{DataType, Null, Boolean, Int8, Int16, Int32, Int64, UInt8, UInt16, UInt32, UInt64, Float16, Float32, Float64, Timestamp, Date32, Date64, Time32, Time64, Duration, Interval, Binary, FixedSizeBinary, LargeBinary, Utf8, LargeUtf8, List', FixedSizeList', LargeList', Struct', Map', Union', Dictionary', Decimal, Decimal256, Extension', Row_of-DataType, end_of-DataType, more_of-DataType}
use Rattle.json_tree.specs.Tree.{null}
use Rattle.json_tree.specs.declared.value.Value.TheOpen as layer
use Rattle.json_tree.specs.declared.value.Value.TheVariants as variant
use Rattle.json_flat.specs.Meaning.{slot_of}
use Rattle.json_flat.specs.Columns.{means}
use Rattle.json_flat.specs.Reading.{inner_reading, reading}

mutual
  null_layer : (t : DataType) → reading t layer.Null ≡ slot_of slot.Null
  null_layer Null = refl
  null_layer Boolean = refl
  null_layer Int8 = refl
  null_layer Int16 = refl
  null_layer Int32 = refl
  null_layer Int64 = refl
  null_layer UInt8 = refl
  null_layer UInt16 = refl
  null_layer UInt32 = refl
  null_layer UInt64 = refl
  null_layer Float16 = refl
  null_layer Float32 = refl
  null_layer Float64 = refl
  null_layer (Timestamp unit timezone) = refl
  null_layer Date32 = refl
  null_layer Date64 = refl
  null_layer (Time32 unit) = refl
  null_layer (Time64 unit) = refl
  null_layer (Duration unit) = refl
  null_layer (Interval unit) = refl
  null_layer Binary = refl
  null_layer (FixedSizeBinary size) = refl
  null_layer LargeBinary = refl
  null_layer Utf8 = refl
  null_layer LargeUtf8 = refl
  null_layer (List' shape item) = refl
  null_layer (FixedSizeList' shape item size) = refl
  null_layer (LargeList' shape item) = refl
  null_layer (Struct' shape fields) = refl
  null_layer (Map' shape entries is_sorted) = refl
  null_layer (Union' shape fields ids mode) = refl
  null_layer (Dictionary' key shape value is_sorted) = null_inner value
  null_layer (Decimal precision scale) = refl
  null_layer (Decimal256 precision scale) = refl
  null_layer (Extension' name shape inner metadata) = refl

  null_inner : {m : _} (row : Row_of-DataType m) → inner_reading row layer.Null ≡ slot_of slot.Null
  null_inner end_of-DataType = refl
  null_inner (more_of-DataType t rest) = null_layer t

pub null_means : (t : DataType) → means (reading t) null ≡ slot_of slot.Null
null_means t = ap (reading t) variant.outs-Null ∙ null_layer t
