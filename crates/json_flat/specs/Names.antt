-- Names of fields, and types with a Struct that names a field twice.
use Rattle.std.specs.Prelude.{ℕ, Bool, false, not, ◌||◌, List, [], ◌∷◌, map}
use Rattle.arrow_core.specs.declared.types.Field.{Field}
use Rattle.arrow_core.specs.declared.types.DataType.{DataType, Row_of-Field, end_of-Field, more_of-Field, Row_of-DataType, end_of-DataType, more_of-DataType}
use Rattle.arrow_core.specs.declared.types.DataType as types
use Rattle.json_tree.specs.Layout.{distinct}

-- the fields' names, in order
abbrev pub names_of : List Field → List (List ℕ)
names_of fields = map (λ (f : Field). f.name) fields

-- the same, of the fields in a type
abbrev pub row_names : {m : _} → Row_of-Field m → List (List ℕ)
row_names end_of-Field = []
row_names (more_of-Field name t is_nullable metadata rest) = name ∷ row_names rest

-- two of the names are the same
abbrev pub repeat : List (List ℕ) → Bool
repeat names = not (distinct names)

abbrev mutual
  -- a Struct, the type itself or one at any depth beneath it, names a field twice
  pub names_twice : DataType → Bool
  names_twice (types.List' shape item) = row_names_twice item
  names_twice (types.LargeList' shape item) = row_names_twice item
  names_twice (types.FixedSizeList' shape item size) = row_names_twice item
  names_twice (types.Map' shape entries is_sorted) = row_names_twice entries
  names_twice (types.Struct' shape fields) = repeat (row_names fields) || row_names_twice fields
  names_twice (types.Union' shape fields ids mode) = row_names_twice fields
  names_twice (types.Dictionary' key shape value is_sorted) = inner_names_twice value
  names_twice (types.Extension' name shape inner metadata) = inner_names_twice inner
  names_twice _ = false

  -- one in the type of a field
  pub row_names_twice : {m : _} → Row_of-Field m → Bool
  row_names_twice end_of-Field = false
  row_names_twice (more_of-Field name t is_nullable metadata rest) = names_twice t || row_names_twice rest

  -- one in the one type of a dictionary's values or of an extension
  pub inner_names_twice : {m : _} → Row_of-DataType m → Bool
  inner_names_twice end_of-DataType = false
  inner_names_twice (more_of-DataType t rest) = names_twice t
