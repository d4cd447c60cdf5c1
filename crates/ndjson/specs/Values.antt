-- The JSON value that a slot's text stands for, by its data type (RFC 8259, section 3).
use Rattle.std.specs.Prelude.{ℕ, ℤ, List, [], ◌∷◌, map, reverse}
use Rattle.std.specs.Fmt.{signed_decimal}
use Rattle.arrow_core.specs.declared.slot.Slot.{Slot, Null, Boolean, Integer, String, Binary, List', Struct', items-the_row-Slot}
use Rattle.arrow_core.specs.declared.types.DataType.{DataType, Row_of-Field, end_of-Field, more_of-Field, Row_of-DataType, end_of-DataType, more_of-DataType}
use Rattle.arrow_core.specs.declared.types.DataType as types
use Rattle.json_dates.specs.Civil.{date_text}
use Rattle.json_dates.specs.Times.{day_of_milliseconds, timestamp_text}
use Rattle.json_text.specs.JsonText.{zone_offset}
use Rattle.json_tree.specs.Keys.{first_keys, keys_of, value_of}
use Rattle.json_tree.specs.Tree.{Json, null, boolean, number, string, array, object, or_null}

-- what the integers, the lists and the structs of a type stand for
pub record Values : Type 0 where
  pub integer : ℤ → Json
  pub list : List Slot → Json
  pub struct : List Slot → Json

-- what a slot stands for; bytes have no text, and null stands for them
abbrev pub slot_value : Values → Slot → Json
slot_value values Null = null
slot_value values (Boolean b) = boolean b
slot_value values (Integer n) = values.integer n
slot_value values (String text) = string text
slot_value values (Binary bytes) = null
slot_value values (List' shape slots) = values.list (items-the_row-Slot _ slots)
slot_value values (Struct' shape slots) = values.struct (items-the_row-Slot _ slots)

-- a number without an exponent (section 6)
abbrev pub whole : ℤ → Json
whole n = number (signed_decimal n) []

-- each name once, where it first stands, with its last value (section 4 leaves open what a name stands for that is there twice)
abbrev pub gathered : List (List ℕ × Json) → List (List ℕ × Json)
gathered members = map (λ name. (name, or_null (value_of name (reverse members)))) (first_keys (keys_of members))

-- a type whose integers stand for these values
abbrev pub integers_as : (ℤ → Json) → Values
integers_as integer = record { integer = integer; list = λ _. null; struct = λ _. null }

-- a type of lists whose items stand for these
abbrev pub lists_of : (Slot → Json) → Values
lists_of item = record { integer = whole; list = λ slots. array (map item slots); struct = λ _. null }

-- a type of structs that have these members
abbrev pub structs_of : (List Slot → List (List ℕ × Json)) → Values
structs_of members = record { integer = whole; list = λ _. null; struct = λ slots. object (gathered (members slots)) }

abbrev mutual
  -- what slots of a type stand for: dates and timestamps for strings, other integers for numbers
  pub values : DataType → Values
  values types.Date32 = integers_as (λ n. string (date_text n))
  values types.Date64 = integers_as (λ n. string (date_text (day_of_milliseconds n)))
  values (types.Timestamp unit timezone) = integers_as (λ n. string (timestamp_text unit (zone_offset timezone) n))
  values (types.List' shape item) = lists_of (item_value item)
  values (types.LargeList' shape item) = lists_of (item_value item)
  values (types.FixedSizeList' shape item size) = lists_of (item_value item)
  values (types.Struct' shape fields) = structs_of (member_values fields)
  values (types.Dictionary' key shape value is_sorted) = inner_values value
  values _ = integers_as whole

  -- an item, by the one field of a type of lists
  pub item_value : {m : _} → Row_of-Field m → Slot → Json
  item_value end_of-Field slot = null
  item_value (more_of-Field name t is_nullable metadata rest) slot = slot_value (values t) slot

  -- the members of a struct, each under its field's name
  pub member_values : {m : _} → Row_of-Field m → List Slot → List (List ℕ × Json)
  member_values end_of-Field slots = []
  member_values (more_of-Field name t is_nullable metadata rest) [] = []
  member_values (more_of-Field name t is_nullable metadata rest) (slot ∷ slots) = (name, slot_value (values t) slot) ∷ member_values rest slots

  -- by the one type of a dictionary's values
  pub inner_values : {m : _} → Row_of-DataType m → Values
  inner_values end_of-DataType = integers_as whole
  inner_values (more_of-DataType t rest) = values t

-- what a slot of a type stands for
abbrev pub value : DataType → Slot → Json
value data_type = slot_value (values data_type)

-- the object of a row, with a member for each name, type and slot
abbrev pub row_members : List (List ℕ) → List DataType → List Slot → List (List ℕ × Json)
row_members (name ∷ names) (data_type ∷ types) (slot ∷ slots) = (name, value data_type slot) ∷ row_members names types slots
row_members _ _ _ = []

abbrev pub row_value : List (List ℕ) → List DataType → List Slot → Json
row_value names types row = object (gathered (row_members names types row))
