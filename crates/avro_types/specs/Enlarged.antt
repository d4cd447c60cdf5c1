-- Fields in large forms: strings, binary values and lists with offsets of 64 bits in place of those of 32 bits (Arrow
-- columnar format, "Variable-size Binary Layout" and "Variable-size List Layout").
use Rattle.arrow_core.specs.declared.types.Field.{Field}
use Rattle.arrow_core.specs.declared.types.DataType.{DataType, Binary, LargeBinary, Utf8, LargeUtf8, List', FixedSizeList', LargeList', Struct', Map', Union', Extension', Row_of-Field, end_of-Field, more_of-Field, Row_of-DataType, end_of-DataType, more_of-DataType}

abbrev mutual
  -- the type with Utf8, Binary and List made large at every depth; the values of a dictionary stay as they are
  pub large_form : DataType → DataType
  large_form Binary = LargeBinary
  large_form Utf8 = LargeUtf8
  large_form (List' shape item) = LargeList' shape (large_fields item)
  large_form (LargeList' shape item) = LargeList' shape (large_fields item)
  large_form (FixedSizeList' shape item size) = FixedSizeList' shape (large_fields item) size
  large_form (Struct' shape fields) = Struct' shape (large_fields fields)
  large_form (Map' shape entries sorted) = Map' shape (large_fields entries) sorted
  large_form (Union' shape fields ids mode) = Union' shape (large_fields fields) ids mode
  large_form (Extension' name shape inner metadata) = Extension' name shape (large_inner inner) metadata
  large_form t = t

  pub large_fields : {m : _} → Row_of-Field m → Row_of-Field m
  large_fields end_of-Field = end_of-Field
  large_fields (more_of-Field name t is_nullable metadata rest) = more_of-Field name (large_form t) is_nullable metadata (large_fields rest)

  pub large_inner : {m : _} → Row_of-DataType m → Row_of-DataType m
  large_inner end_of-DataType = end_of-DataType
  large_inner (more_of-DataType t rest) = more_of-DataType (large_form t) (large_inner rest)

-- the same field in large forms
abbrev pub enlarged : Field → Field
enlarged f = record f { data_type = large_form f.data_type }
