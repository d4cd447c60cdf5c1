-- Which data type an array of each kind has (Arrow columnar format, "Physical Memory Layout").
use Rattle.std.specs.Prelude.{◌≡◌, ◌<◌, Bool, List, length}
use Rattle.arrow_core.specs.declared.physical.PhysicalType.{PhysicalType}
use Rattle.arrow_core.specs.declared.physical.PhysicalType.TheVariants as physical
use Rattle.arrow_core.specs.declared.physical.PrimitiveType.TheVariants as primitive
use Rattle.arrow_core.specs.declared.types.DataType.{DataType, Dictionary'}
use Rattle.arrow_core.specs.declared.types.DataType.TheVariants as types
use Rattle.arrow_core.specs.declared.types.Field.{Field}
use Rattle.arrow_core.specs.declared.types.IntegerType.{IntegerType}
use Rattle.arrow_core.specs.declared.types.IntegerType.TheVariants as integer
use Rattle.arrow_array.specs.declared.array.Array.{Array}
use Rattle.arrow_array.specs.declared.array.Array.TheVariants.{Null, Boolean, Int8, Int16, Int32, Int64, UInt8, UInt16, UInt32, UInt64, Int128, MonthDayNano, Utf8, LargeUtf8, Binary, LargeBinary, FixedSizeBinary, List as ListOf, LargeList, FixedSizeList, Struct, Dictionary}
use Rattle.arrow_array.specs.FixedLists.{list_size}
use Rattle.arrow_array.specs.Lists.{list_type}
use Rattle.arrow_array.specs.Parts.{byte_width}

-- the type of lists of some field, with offsets of 32 bits, or of 64
abbrev pub IsListType : Bool → DataType → Type 0
IsListType is_large data_type = (field : Field) × (data_type ≡ list_type is_large field)

-- the type of fixed-size lists of some field, of at least 1 item
abbrev pub IsFixedListType : DataType → Type 0
IsFixedListType data_type = (field : Field) × (data_type ≡ types.FixedSizeList field (list_size data_type))
    × (0 < list_size data_type)

-- the type of binary values of one size, at least 1
abbrev pub IsFixedBinaryType : DataType → Type 0
IsFixedBinaryType data_type = (data_type ≡ types.FixedSizeBinary (byte_width data_type))
    × (0 < byte_width data_type)

-- the type of structs of some fields, at least 1
abbrev pub IsStructType : DataType → Type 0
IsStructType data_type = (fields : List Field) × (data_type ≡ types.Struct fields) × (0 < length fields)

-- the integer type of a dictionary's keys; Int8 for a type that isn't a dictionary's
abbrev pub key_type : DataType → IntegerType
key_type (Dictionary' key shape value is_sorted) = key
key_type _ = integer.Int8

-- the type of a dictionary over some values
abbrev pub IsDictionaryType : DataType → Type 0
IsDictionaryType data_type = (value : DataType) × (is_sorted : Bool)
    × (data_type ≡ types.Dictionary (key_type data_type) value is_sorted)

-- how the slots of an array lie in memory
abbrev pub array_kind : Array → PhysicalType
array_kind (Null a) = physical.Null
array_kind (Boolean a) = physical.Boolean
array_kind (Int8 a) = physical.Primitive primitive.Int8
array_kind (Int16 a) = physical.Primitive primitive.Int16
array_kind (Int32 a) = physical.Primitive primitive.Int32
array_kind (Int64 a) = physical.Primitive primitive.Int64
array_kind (UInt8 a) = physical.Primitive primitive.UInt8
array_kind (UInt16 a) = physical.Primitive primitive.UInt16
array_kind (UInt32 a) = physical.Primitive primitive.UInt32
array_kind (UInt64 a) = physical.Primitive primitive.UInt64
array_kind (Int128 a) = physical.Primitive primitive.Int128
array_kind (MonthDayNano a) = physical.Primitive primitive.MonthDayNano
array_kind (Utf8 a) = physical.Utf8
array_kind (LargeUtf8 a) = physical.LargeUtf8
array_kind (Binary a) = physical.Binary
array_kind (LargeBinary a) = physical.LargeBinary
array_kind (FixedSizeBinary a) = physical.FixedSizeBinary
array_kind (ListOf a) = physical.List
array_kind (LargeList a) = physical.LargeList
array_kind (FixedSizeList a) = physical.FixedSizeList
array_kind (Struct a) = physical.Struct
array_kind (Dictionary a) = physical.Dictionary (key_type a.data_type)
