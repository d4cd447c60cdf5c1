-- How columns of native values are laid out (Arrow columnar format, "Fixed-size Primitive Layout").
use Rattle.arrow_core.specs.declared.physical.PrimitiveType.{PrimitiveType}
use Rattle.arrow_core.specs.declared.physical.PrimitiveType.TheVariants as primitive

-- the types of values that a column keeps as they are
pub data Native : Type 0 where
  of_i8 : Native
  of_i16 : Native
  of_i32 : Native
  of_i64 : Native
  of_i128 : Native
  of_u8 : Native
  of_u16 : Native
  of_u32 : Native
  of_u64 : Native
  of_interval : Native

-- the layout of a column of such values
abbrev pub layout : Native → PrimitiveType
layout of_i8 = primitive.Int8
layout of_i16 = primitive.Int16
layout of_i32 = primitive.Int32
layout of_i64 = primitive.Int64
layout of_i128 = primitive.Int128
layout of_u8 = primitive.UInt8
layout of_u16 = primitive.UInt16
layout of_u32 = primitive.UInt32
layout of_u64 = primitive.UInt64
layout of_interval = primitive.MonthDayNano
