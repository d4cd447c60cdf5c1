-- Types of columns in which the type Null stands.
use Rattle.std.specs.Prelude.{Bool, true, false, ◌||◌, List}
use Rattle.std.specs.List.{list_any}
use Rattle.arrow_core.specs.declared.types.DataType.{DataType, Row_of-Field, end_of-Field, more_of-Field}
use Rattle.arrow_core.specs.declared.types.DataType as types
use Rattle.arrow_core.specs.declared.types.Field.{Field}

abbrev mutual
  -- the type Null stands in a type of columns: the type itself, or one beneath it in lists and structs
  pub holds_null : DataType → Bool
  holds_null types.Null = true
  holds_null (types.List' shape item) = row_holds_null item
  holds_null (types.LargeList' shape item) = row_holds_null item
  holds_null (types.Struct' shape fields) = row_holds_null fields
  holds_null _ = false

  -- in the type of a field
  pub row_holds_null : {m : _} → Row_of-Field m → Bool
  row_holds_null end_of-Field = false
  row_holds_null (more_of-Field name t is_nullable metadata rest) = holds_null t || row_holds_null rest

-- ---- Contracts of private functions alone cite what follows.

-- in the type of one of the fields
abbrev pub any_holds_null : List Field → Bool
any_holds_null = list_any (λ (f : Field). holds_null f.data_type)
