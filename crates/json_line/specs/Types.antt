-- The types of columns that lines of JSON are read into without a tree. What a value means under one of them is told by `reading` (`json_flat`).
use Rattle.std.specs.Prelude.{Bool, true, false, not, ◌&&◌, ◌==◌}
use Rattle.arrow_core.specs.Layouts.{physical_type}
use Rattle.arrow_core.specs.declared.types.DataType.{DataType, List', LargeList', FixedSizeList', Struct', Row_of-Field, end_of-Field, more_of-Field}
use Rattle.arrow_core.specs.declared.physical.PhysicalType.{PhysicalType}
use Rattle.arrow_core.specs.declared.physical.PhysicalType.TheVariants as physical
use Rattle.arrow_core.specs.declared.physical.PrimitiveType.TheVariants as primitive
use Rattle.arrow_array.specs.Parts.{is_extension}
use Rattle.json_tree.specs.Layout.{distinct}
use Rattle.json_flat.specs.Names.{row_names}
use Rattle.json_flat.specs.Reading.{has_field}

abbrev pub kind_has_reading : PhysicalType → Bool
kind_has_reading physical.Null = true
kind_has_reading physical.Boolean = true
kind_has_reading (physical.Primitive primitive.Int8) = true
kind_has_reading (physical.Primitive primitive.Int16) = true
kind_has_reading (physical.Primitive primitive.Int32) = true
kind_has_reading (physical.Primitive primitive.Int64) = true
kind_has_reading (physical.Primitive primitive.UInt8) = true
kind_has_reading (physical.Primitive primitive.UInt16) = true
kind_has_reading (physical.Primitive primitive.UInt32) = true
kind_has_reading (physical.Primitive primitive.UInt64) = true
kind_has_reading physical.Utf8 = true
kind_has_reading physical.LargeUtf8 = true
kind_has_reading physical.Binary = true
kind_has_reading physical.LargeBinary = true
kind_has_reading _ = false

abbrev mutual
  -- Whether lines are read into columns of the type: nulls, booleans, integers of 8 to 64 bits and the types that are kept as such,
  -- strings and bytes; lists of these, fixed-size ones of at least one item too, and structs of at least one field, each of these, with
  -- no name twice; and no extension. These are the types that have a reading (`has_reading`), but for those with a dictionary or with a
  -- name twice in them.
  pub has_line_reading : DataType → Bool
  has_line_reading (List' shape item) = row_has_readings item
  has_line_reading (LargeList' shape item) = row_has_readings item
  has_line_reading (FixedSizeList' shape item size) = not (size == 0) && row_has_readings item
  has_line_reading (Struct' shape fields) = has_field fields && (distinct (row_names fields) && row_has_readings fields)
  has_line_reading data_type = not (is_extension data_type) && kind_has_reading (physical_type data_type)

  -- whether they are under the type of each field
  pub row_has_readings : {m : _} → Row_of-Field m → Bool
  row_has_readings end_of-Field = true
  row_has_readings (more_of-Field name t is_nullable metadata rest) = has_line_reading t && row_has_readings rest
