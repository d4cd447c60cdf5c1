-- Dictionaries of the slots that values mean (Arrow columnar format, "Dictionary-encoded Layout").
use Rattle.std.specs.Prelude.{◌⊎◌, true, false, List}
use Rattle.arrow_dictionaries.specs.Encoding.{EncodesSlots, HasTooLongStrings, HasTooManyDistinct}
use Rattle.arrow_core.specs.Numbers.{greatest_offset}
use Rattle.arrow_core.specs.declared.slot.Slot.{Slot}
use Rattle.arrow_core.specs.declared.types.DataType.{DataType}
use Rattle.arrow_core.specs.declared.types.DataType as types
use Rattle.arrow_core.specs.declared.types.IntegerType.{IntegerType}
use Rattle.json_tree.specs.Tree.{Json}
use Rattle.json_flat.specs.Meaning.{Layer, Meaning, text_in}
use Rattle.json_flat.specs.Columns.{AreSlotsOf, IsTooLong}
use Rattle.json_flat.specs.Reading.{reading}

-- the distinct strings have more bytes together than offsets of the type count
abbrev pub HasLongStrings : DataType → List Slot → Type 0
HasLongStrings types.Utf8 slots = HasTooLongStrings (greatest_offset false) slots
HasLongStrings types.LargeUtf8 slots = HasTooLongStrings (greatest_offset true) slots
HasLongStrings _ slots = ⊥

-- all strings, equal ones counted each, have more bytes together than 2^63 - 1
abbrev pub AreLongStrings : DataType → List Json → Type 0
AreLongStrings types.Utf8 values = IsTooLong (greatest_offset true) text_in values
AreLongStrings types.LargeUtf8 values = IsTooLong (greatest_offset true) text_in values
AreLongStrings _ values = ⊥

-- the slots of values are too many for keys, or too long
abbrev pub AreTooMany : (Layer → Meaning) → IntegerType → (List Slot → Type 0) → Type 0 → List Json → Type 0
AreTooMany reading key are_long all_long values =
    ((slots : List Slot) × AreSlotsOf reading values slots × (HasTooManyDistinct key slots ⊎ are_long slots)) ⊎ all_long

-- there are more distinct slots than keys number, or strings too long to be counted
abbrev pub TooManyDistinct : IntegerType → DataType → List Json → Type 0
TooManyDistinct key t values = AreTooMany (reading t) key (HasLongStrings t) (AreLongStrings t values) values

-- ---- Contracts of private functions alone cite what follows.

-- keys and values that stand for the slots of values
abbrev pub AreEncoded : (Layer → Meaning) → List Json → List Slot → List Slot → Type 0
AreEncoded reading values keys items = (slots : List Slot) × AreSlotsOf reading values slots × EncodesSlots slots keys items
