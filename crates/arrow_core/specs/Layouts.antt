-- The type beneath extensions, and how the values of a type lie in memory.
use Rattle.arrow_core.specs.declared.types.DataType.{DataType, Null, Boolean, Int8, Int16, Int32, Int64, UInt8, UInt16, UInt32, UInt64, Float16, Float32, Float64, Timestamp, Date32, Date64, Time32, Time64, Duration, Interval, Binary, FixedSizeBinary, LargeBinary, Utf8, LargeUtf8, List', FixedSizeList', LargeList', Struct', Map', Union', Dictionary', Decimal, Decimal256, Extension', Row_of-DataType, end_of-DataType, more_of-DataType}
use Rattle.arrow_core.specs.declared.types.IntervalUnit.{IntervalUnit}
use Rattle.arrow_core.specs.declared.types.IntervalUnit.TheVariants as interval
use Rattle.arrow_core.specs.declared.physical.PhysicalType.{PhysicalType}
use Rattle.arrow_core.specs.declared.physical.PhysicalType.TheVariants as physical
use Rattle.arrow_core.specs.declared.physical.PrimitiveType.{PrimitiveType}
use Rattle.arrow_core.specs.declared.physical.PrimitiveType.TheVariants as primitive

-- how an interval lies in memory
abbrev pub interval_layout : IntervalUnit → PrimitiveType
interval_layout interval.YearMonth = primitive.Int32
interval_layout interval.DayTime = primitive.DaysMs
interval_layout interval.MonthDayNano = primitive.MonthDayNano

abbrev mutual
  -- the type beneath extensions
  pub logical_type : DataType → DataType
  logical_type (Extension' name shape inner metadata) = logical_inner inner
  logical_type t = t

  -- the same of the one type that an extension has
  pub logical_inner : {m : _} → Row_of-DataType m → DataType
  logical_inner end_of-DataType = Null
  logical_inner (more_of-DataType t rest) = logical_type t

abbrev mutual
  -- how the values of a type lie in memory (Arrow columnar format, "Physical Memory Layout")
  pub physical_type : DataType → PhysicalType
  physical_type Null = physical.Null
  physical_type Boolean = physical.Boolean
  physical_type Int8 = physical.Primitive primitive.Int8
  physical_type Int16 = physical.Primitive primitive.Int16
  physical_type Int32 = physical.Primitive primitive.Int32
  physical_type Int64 = physical.Primitive primitive.Int64
  physical_type UInt8 = physical.Primitive primitive.UInt8
  physical_type UInt16 = physical.Primitive primitive.UInt16
  physical_type UInt32 = physical.Primitive primitive.UInt32
  physical_type UInt64 = physical.Primitive primitive.UInt64
  physical_type Float16 = physical.Primitive primitive.Float16
  physical_type Float32 = physical.Primitive primitive.Float32
  physical_type Float64 = physical.Primitive primitive.Float64
  physical_type (Timestamp unit timezone) = physical.Primitive primitive.Int64
  physical_type Date32 = physical.Primitive primitive.Int32
  physical_type Date64 = physical.Primitive primitive.Int64
  physical_type (Time32 unit) = physical.Primitive primitive.Int32
  physical_type (Time64 unit) = physical.Primitive primitive.Int64
  physical_type (Duration unit) = physical.Primitive primitive.Int64
  physical_type (Interval unit) = physical.Primitive (interval_layout unit)
  physical_type Binary = physical.Binary
  physical_type (FixedSizeBinary size) = physical.FixedSizeBinary
  physical_type LargeBinary = physical.LargeBinary
  physical_type Utf8 = physical.Utf8
  physical_type LargeUtf8 = physical.LargeUtf8
  physical_type (List' shape item) = physical.List
  physical_type (FixedSizeList' shape item size) = physical.FixedSizeList
  physical_type (LargeList' shape item) = physical.LargeList
  physical_type (Struct' shape fields) = physical.Struct
  physical_type (Map' shape entries sorted) = physical.Map
  physical_type (Union' shape fields ids mode) = physical.Union
  physical_type (Dictionary' key shape value sorted) = physical.Dictionary key
  physical_type (Decimal precision scale) = physical.Primitive primitive.Int128
  physical_type (Decimal256 precision scale) = physical.Primitive primitive.Int256
  physical_type (Extension' name shape inner metadata) = physical_inner inner

  -- the same of the one type that an extension has
  pub physical_inner : {m : _} → Row_of-DataType m → PhysicalType
  physical_inner end_of-DataType = physical.Null
  physical_inner (more_of-DataType t rest) = physical_type t
