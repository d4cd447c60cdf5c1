-- What `deserialize` answers.
use Rattle.std.specs.Prelude.{◌≡◌, ◌⊎◌, true, false, List}
use Rattle.arrow_core.specs.declared.error.Error.{Error}
use Rattle.arrow_core.specs.declared.error.Error.TheVariants.{InvalidArgumentError, NotYetImplemented, OutOfMemory, Overflow}
use Rattle.arrow_core.specs.declared.error.Reason.TheVariants as reason
use Rattle.arrow_core.specs.declared.slot.Slot.{Slot}
use Rattle.arrow_core.specs.declared.types.DataType.{DataType}
use Rattle.arrow_core.specs.declared.types.DataType as types
use Rattle.arrow_core.specs.declared.types.Field.{Field}
use Rattle.json_tree.specs.Tree.{Json, array}
use Rattle.json_flat.specs.Meaning.{text_timestamp, unfit}
use Rattle.json_flat.specs.Columns.{AreSlotsOf, Has}
use Rattle.json_columns.specs.Faults.{TooMany}
use Rattle.json_flat.specs.Names.{names_twice}
use Rattle.json_flat.specs.Reading.{has_reading, reading}

-- Why there is no column of values under a type, the first that applies: a Struct names a field twice; a type has no reading; a
-- text stands under a timestamp; a value doesn't fit its type, there are more items or bytes than can be counted, or more distinct
-- slots of a dictionary than its keys number. Out of memory may come in place of any of these.
abbrev pub IsRefusal : DataType → List Json → Error → Type 0
IsRefusal t values (InvalidArgumentError reason.DuplicateName) = (names_twice t ≡ true)
IsRefusal t values (NotYetImplemented reason.NoJsonReading) = (names_twice t ≡ false) × (has_reading t ≡ false)
IsRefusal t values (NotYetImplemented reason.TextTimestamp) = (names_twice t ≡ false) × (has_reading t ≡ true) × Has text_timestamp (reading t) values
IsRefusal t values Overflow =
    (names_twice t ≡ false) × (has_reading t ≡ true) × (Has text_timestamp (reading t) values → ⊥)
    × (Has unfit (reading t) values ⊎ TooMany t values)
IsRefusal t values OutOfMemory = Unit {0}
IsRefusal t values _ = ⊥

-- the value is an array of these items, and the type one of lists of this field
abbrev pub IsListed : Json → DataType → List Json → Field → Type 0
IsListed json t items item = (json ≡ array items) × ((t ≡ types.List item) ⊎ (t ≡ types.LargeList item))

-- the column of an array's items under the item type of lists, which has a reading and names no field twice; nothing in it is more than can be counted
abbrev pub IsColumnOf : Json → DataType → DataType → List Slot → Type 0
IsColumnOf json t column_type slots =
    (items : List Json) × (item : Field) × IsListed json t items item
    × (names_twice item.data_type ≡ false) × (has_reading item.data_type ≡ true)
    × (column_type ≡ item.data_type) × AreSlotsOf (reading item.data_type) items slots × (TooMany item.data_type items → ⊥)

-- Why there is no such column: the value is no array or the type not List or LargeList; else why there is no column of the items.
abbrev pub IsListRefusal : Json → DataType → Error → Type 0
IsListRefusal json t e =
    ((e ≡ NotYetImplemented reason.NotAnArray) × ((items : List Json) (item : Field) → IsListed json t items item → ⊥))
    ⊎ ((items : List Json) × (item : Field) × IsListed json t items item × IsRefusal item.data_type items e)

-- ---- Contracts of private functions alone cite what follows.

-- why values aren't read under a type; out of memory may come in place of either
abbrev pub IsTypeRefusal : DataType → Error → Type 0
IsTypeRefusal t (InvalidArgumentError reason.DuplicateName) = (names_twice t ≡ true)
IsTypeRefusal t (NotYetImplemented reason.NoJsonReading) = (names_twice t ≡ false) × (has_reading t ≡ false)
IsTypeRefusal t OutOfMemory = Unit {0}
IsTypeRefusal t _ = ⊥
