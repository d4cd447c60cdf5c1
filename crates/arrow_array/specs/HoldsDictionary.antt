-- Which data types are those of dictionaries, or have one beneath them.
use Rattle.std.specs.Prelude.{◌≡◌, Bool, true, false, ◌||◌, List, []}
use Rattle.std.specs.List.{list_any}
use Rattle.arrow_core.specs.declared.types.DataType.{DataType, List', LargeList', FixedSizeList', Struct', Dictionary', Row_of-Field, end_of-Field, more_of-Field}
use Rattle.arrow_core.specs.declared.types.Field.{Field}
use Rattle.arrow_array.specs.declared.array.Array.{Array}
use Rattle.arrow_array.specs.Arrays.{array_type, dictionaries_of}

abbrev mutual
  -- The type is a dictionary's, or one beneath it is, through lists and structs. It is false of a Map, a Union and an Extension, which
  -- no array is of, whatever they are made of.
  pub holds_dictionary : DataType → Bool
  holds_dictionary (List' shape item) = item_holds_dictionary item
  holds_dictionary (LargeList' shape item) = item_holds_dictionary item
  holds_dictionary (FixedSizeList' shape item size) = item_holds_dictionary item
  holds_dictionary (Struct' shape fields) = row_holds_dictionary fields
  holds_dictionary (Dictionary' key shape value is_sorted) = true
  holds_dictionary _ = false

  -- the same of the one field of a list
  pub item_holds_dictionary : {m : _} → Row_of-Field m → Bool
  item_holds_dictionary end_of-Field = false
  item_holds_dictionary (more_of-Field name t is_nullable metadata rest) = holds_dictionary t

  -- the same of one of the fields of a struct
  pub row_holds_dictionary : {m : _} → Row_of-Field m → Bool
  row_holds_dictionary end_of-Field = false
  row_holds_dictionary (more_of-Field name t is_nullable metadata rest) = holds_dictionary t || row_holds_dictionary rest

-- the type of one of the fields is, or has one beneath it
abbrev pub any_holds_dictionary : List Field → Bool
any_holds_dictionary = list_any (λ (f : Field). holds_dictionary f.data_type)

-- an array whose type holds no dictionary holds none
abbrev pub HoldsNone : Array → Type 0
HoldsNone array = holds_dictionary (array_type array) ≡ false → dictionaries_of array ≡ []
