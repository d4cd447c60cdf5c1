-- The texts of the data types that are inferred from JSON, as `avrocat infer` prints them.
use Rattle.std.specs.Prelude.{ℕ, List, [], ◌∷◌, ◌++◌, codes}
use Rattle.arrow_base.specs.Joined.{joined}
use Rattle.arrow_base.specs.WrittenString.{json_string}
use Rattle.arrow_core.specs.declared.types.DataType.{DataType, Null, Boolean, Int64, Float64, Utf8, List', Struct', Row_of-Field, end_of-Field, more_of-Field}

-- a field of a struct: its name as a JSON string, a colon, and the text of its type
abbrev pub member_text : List ℕ → List ℕ → List ℕ
member_text name text = json_string name ++ (codes ":" ++ text)

-- A flat type is its name, a list the text of its items' type in parentheses, a struct its fields in braces. Whether a field
-- may hold nulls, the name of a list's items and metadata aren't shown. No other type is inferred, and none has a text.
abbrev mutual
  pub type_text : DataType → List ℕ
  type_text Null = codes "Null"
  type_text Boolean = codes "Boolean"
  type_text Int64 = codes "Int64"
  type_text Float64 = codes "Float64"
  type_text Utf8 = codes "Utf8"
  type_text (List' shape item) = codes "List(" ++ (item_text item ++ codes ")")
  type_text (Struct' shape fields) = codes "Struct{" ++ (joined (member_texts fields) ++ codes "}")
  type_text _ = []

  -- the one field of a list
  pub item_text : {m : _} → Row_of-Field m → List ℕ
  item_text end_of-Field = []
  item_text (more_of-Field name data_type is_nullable metadata rest) = type_text data_type

  -- the fields of a struct, in order
  pub member_texts : {m : _} → Row_of-Field m → List (List ℕ)
  member_texts end_of-Field = []
  member_texts (more_of-Field name data_type is_nullable metadata rest) = member_text name (type_text data_type) ∷ member_texts rest
