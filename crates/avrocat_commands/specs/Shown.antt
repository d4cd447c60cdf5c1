-- The lines that show columns.
use Rattle.std.specs.Prelude.{ℕ, ◌/◌, ◌%◌, List, [], ◌∷◌, ◌++◌, map, flat_map, codes, if◌then◌else◌}
use Rattle.std.specs.Fmt.{signed_decimal}
use Rattle.std.specs.List.{join_with_byte}
use Rattle.arrow_core.specs.declared.slot.Slot.{Slot, Null, Boolean as BooleanSlot, Integer as IntegerSlot, String as StringSlot, Binary as BinarySlot, List' as ListSlot', Struct' as StructSlot', Row_of-Slot, end_of-Slot, more_of-Slot}
use Rattle.std.specs.Char.{digit_char}
use Rattle.arrow_base.specs.WrittenString.{json_string}

-- a byte as two lower-case hexadecimal digits
abbrev pub hexadecimal : ℕ → List ℕ
hexadecimal byte = digit_char (byte / 16) ∷ digit_char (byte % 16) ∷ []

-- texts with commas between them
abbrev pub joined : List (List ℕ) → List ℕ
joined = join_with_byte 44

abbrev mutual
  -- the text of a slot: null, a boolean, a decimal number, a JSON string, hexadecimal bytes, a list
  -- between brackets, or a struct between braces
  pub slot_text : Slot → List ℕ
  slot_text Null = codes "null"
  slot_text (BooleanSlot b) = if b then codes "true" else codes "false"
  slot_text (IntegerSlot n) = signed_decimal n
  slot_text (StringSlot text) = json_string text
  slot_text (BinarySlot bytes) = codes "0x" ++ flat_map hexadecimal bytes
  slot_text (ListSlot' shape slots) = codes "[" ++ (joined (slot_texts slots) ++ codes "]")
  slot_text (StructSlot' shape slots) = codes "{" ++ (joined (slot_texts slots) ++ codes "}")

  pub slot_texts : {m : _} → Row_of-Slot m → List (List ℕ)
  slot_texts end_of-Slot = []
  slot_texts (more_of-Slot slot more) = slot_text slot ∷ slot_texts more

-- the line of a column: its name, a colon, its slots between brackets, and a line feed
abbrev pub line_of : List ℕ → List Slot → List ℕ
line_of name slots = name ++ (codes ":[" ++ (joined (map slot_text slots) ++ codes "]\n"))

-- the lines of columns, one for each name
abbrev pub shown : List (List ℕ) → List (List Slot) → List ℕ
shown (name ∷ names) (slots ∷ columns) = line_of name slots ++ shown names columns
shown _ _ = []
