-- How many brackets are open at once, at most, in the schema that columns have, and whether their names are UTF-8, both at every
-- depth (Avro 1.11, "Schema Declaration").
use Rattle.std.specs.Prelude.{ℕ, ◌+◌, max, List, [], ◌∷◌, Bool, true, false}
use Rattle.std.specs.List.{AllByRecursion}
use Rattle.std.specs.Str.{IsUtf8}
use Rattle.arrow_core.specs.declared.types.DataType.{DataType, Row_of-Field, end_of-Field, more_of-Field}
use Rattle.arrow_core.specs.declared.types.DataType as types
use Rattle.arrow_core.specs.declared.types.Field.{Field}

-- that of the union of a nullable column
abbrev pub null_bracket : Bool → ℕ
null_bracket true = 1
null_bracket false = 0

-- of a type with no types in it: that of a logical type, or of a fixed type
abbrev pub flat_brackets : DataType → ℕ
flat_brackets types.Date32 = 1
flat_brackets (types.Time32 u) = 1
flat_brackets (types.Time64 u) = 1
flat_brackets (types.Timestamp u _) = 1
flat_brackets (types.Decimal precision scale) = 1
flat_brackets (types.FixedSizeBinary size) = 1
flat_brackets (types.Interval u) = 1
flat_brackets _ = 0

abbrev mutual
  -- one for an array; three for a record, for its fields and for each of these
  pub type_brackets : DataType → ℕ
  type_brackets (types.List' shape item) = 1 + row_brackets item
  type_brackets (types.LargeList' shape item) = 1 + row_brackets item
  type_brackets (types.Struct' shape fields) = 3 + row_brackets fields
  type_brackets t = flat_brackets t

  -- the most in any of these
  pub row_brackets : {m : _} → Row_of-Field m → ℕ
  row_brackets end_of-Field = 0
  row_brackets (more_of-Field name t is_nullable metadata rest) = max (null_bracket is_nullable + type_brackets t) (row_brackets rest)

-- the most in the schema of any of these columns
abbrev pub brackets_of : List Field → ℕ
brackets_of [] = 0
brackets_of (f ∷ fields) = max (null_bracket f.is_nullable + type_brackets f.data_type) (brackets_of fields)

abbrev mutual
  pub TypeNamesAreUtf8 : DataType → Type 0
  TypeNamesAreUtf8 (types.List' shape item) = RowNamesAreUtf8 item
  TypeNamesAreUtf8 (types.LargeList' shape item) = RowNamesAreUtf8 item
  TypeNamesAreUtf8 (types.Struct' shape fields) = RowNamesAreUtf8 fields
  TypeNamesAreUtf8 _ = Unit {0}

  pub RowNamesAreUtf8 : {m : _} → Row_of-Field m → Type 0
  RowNamesAreUtf8 end_of-Field = Unit {0}
  RowNamesAreUtf8 (more_of-Field name t is_nullable metadata rest) = (IsUtf8 name × TypeNamesAreUtf8 t) × RowNamesAreUtf8 rest

abbrev pub NamesAreUtf8 : List Field → Type 0
NamesAreUtf8 = AllByRecursion (λ f. IsUtf8 f.name × TypeNamesAreUtf8 f.data_type)
