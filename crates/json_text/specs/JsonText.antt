-- The JSON text of a slot by its data type (RFC 8259).
use Rattle.std.specs.Prelude.{ℕ, ℤ, Option, Some, None, List, [], ◌∷◌, ◌++◌, map, codes, if◌then◌else◌}
use Rattle.std.specs.Fmt.{signed_decimal}
use Rattle.std.specs.List.{join_with_byte}
use Rattle.arrow_core.specs.declared.slot.Slot.{Slot, Null, Boolean, Integer, String, Binary, List', Struct', items-the_row-Slot}
use Rattle.arrow_core.specs.declared.types.Field.{Field}
use Rattle.arrow_core.specs.declared.types.DataType.{DataType, Row_of-Field, end_of-Field, more_of-Field, Row_of-DataType, end_of-DataType, more_of-DataType}
use Rattle.arrow_core.specs.declared.types.DataType as types
use Rattle.arrow_base.specs.WrittenString.{json_string}
use Rattle.json_dates.specs.Times.{date_json, day_of_milliseconds, offset_of, timestamp_json}

abbrev pub null : List ℕ
null = codes "null"

-- texts with commas between them
abbrev pub joined : List (List ℕ) → List ℕ
joined = join_with_byte 44

-- a JSON array of the items (RFC 8259, section 5)
abbrev pub array : List (List ℕ) → List ℕ
array items = codes "[" ++ (joined items ++ codes "]")

-- a member of a JSON object
abbrev pub member : List ℕ → List ℕ → List ℕ
member name value = json_string name ++ (codes ":" ++ value)

-- a JSON object of the members (RFC 8259, section 4)
abbrev pub object : List (List ℕ) → List ℕ
object members = codes "{" ++ (joined members ++ codes "}")

-- how the slots of a data type are written where the type decides it: integers, lists and structs
pub record Form : Type 0 where
  pub integer : ℤ → List ℕ
  pub list : List Slot → List ℕ
  pub struct : List Slot → List ℕ

-- a slot; bytes have no text, and `null` stands for them
abbrev pub slot_text : Form → Slot → List ℕ
slot_text form Null = null
slot_text form (Boolean b) = if b then codes "true" else codes "false"
slot_text form (Integer n) = form.integer n
slot_text form (String string) = json_string string
slot_text form (Binary bytes) = null
slot_text form (List' shape slots) = form.list (items-the_row-Slot _ slots)
slot_text form (Struct' shape slots) = form.struct (items-the_row-Slot _ slots)

-- a type whose integers are written so
abbrev pub of_integers : (ℤ → List ℕ) → Form
of_integers integer = record { integer = integer; list = λ _. null; struct = λ _. null }

-- a type of lists whose items are written so
abbrev pub of_lists : (Slot → List ℕ) → Form
of_lists item = record { integer = signed_decimal; list = λ slots. array (map item slots); struct = λ _. null }

-- a type of structs whose members are written so
abbrev pub of_structs : (List Slot → List (List ℕ)) → Form
of_structs members = record { integer = signed_decimal; list = λ _. null; struct = λ slots. object (members slots) }

-- the minutes that the offset of a timestamp's zone, if it has one, is east of UTC
abbrev pub zone_offset : Option (List ℕ) → Option ℤ
zone_offset None = None
zone_offset (Some zone) = offset_of zone

abbrev mutual
  -- how slots of a type are written: dates and timestamps as such, other integers in decimal
  pub form : DataType → Form
  form types.Date32 = of_integers date_json
  form types.Date64 = of_integers (λ n. date_json (day_of_milliseconds n))
  form (types.Timestamp unit timezone) = of_integers (timestamp_json unit (zone_offset timezone))
  form (types.List' shape item) = of_lists (item_text item)
  form (types.LargeList' shape item) = of_lists (item_text item)
  form (types.FixedSizeList' shape item size) = of_lists (item_text item)
  form (types.Struct' shape fields) = of_structs (member_texts fields)
  form (types.Dictionary' key shape value is_sorted) = value_form value
  form _ = of_integers signed_decimal

  -- an item, by the one field of a type of lists
  pub item_text : {m : _} → Row_of-Field m → Slot → List ℕ
  item_text end_of-Field slot = null
  item_text (more_of-Field name t is_nullable metadata rest) slot = slot_text (form t) slot

  -- the members of a struct, each under its field's name
  pub member_texts : {m : _} → Row_of-Field m → List Slot → List (List ℕ)
  member_texts end_of-Field slots = []
  member_texts (more_of-Field name t is_nullable metadata rest) [] = []
  member_texts (more_of-Field name t is_nullable metadata rest) (slot ∷ slots) = member name (slot_text (form t) slot) ∷ member_texts rest slots

  -- by the one type of a dictionary's values
  pub value_form : {m : _} → Row_of-DataType m → Form
  value_form end_of-DataType = of_integers signed_decimal
  value_form (more_of-DataType t rest) = form t

-- the JSON text of a slot of a type that has one
abbrev pub text : DataType → Slot → List ℕ
text data_type = slot_text (form data_type)

-- the members of the fields, in order
abbrev pub field_members : List Field → List Slot → List (List ℕ)
field_members (field ∷ fields) (slot ∷ slots) = member field.name (text field.data_type slot) ∷ field_members fields slots
field_members _ _ = []
