-- The data type, the slots, the dictionaries and the validity of an array of any kind.
use Rattle.std.specs.Prelude.{◌≡◌, List, [], ◌∷◌, ◌++◌, Option, None}
use Rattle.arrow_core.specs.declared.slot.Slot.{Slot}
use Rattle.arrow_core.specs.declared.types.DataType.{DataType}
use Rattle.arrow_array.specs.Bits.{Packed}
use Rattle.arrow_array.specs.declared.array.Array.{Array}
use Rattle.arrow_array.specs.declared.array.Array.TheVariants.{Null, Boolean, Int8, Int16, Int32, Int64, UInt8, UInt16, UInt32, UInt64, Int128, MonthDayNano, Utf8, LargeUtf8, Binary, LargeBinary, FixedSizeBinary, List as ListOf, LargeList, FixedSizeList, Struct, Dictionary}
use Rattle.arrow_array.specs.Slots.{TellsHeld}

abbrev pub array_type : Array → DataType
array_type (Null a) = a.data_type
array_type (Boolean a) = a.data_type
array_type (Int8 a) = a.data_type
array_type (Int16 a) = a.data_type
array_type (Int32 a) = a.data_type
array_type (Int64 a) = a.data_type
array_type (UInt8 a) = a.data_type
array_type (UInt16 a) = a.data_type
array_type (UInt32 a) = a.data_type
array_type (UInt64 a) = a.data_type
array_type (Int128 a) = a.data_type
array_type (MonthDayNano a) = a.data_type
array_type (Utf8 a) = a.data_type
array_type (LargeUtf8 a) = a.data_type
array_type (Binary a) = a.data_type
array_type (LargeBinary a) = a.data_type
array_type (FixedSizeBinary a) = a.data_type
array_type (ListOf a) = a.data_type
array_type (LargeList a) = a.data_type
array_type (FixedSizeList a) = a.data_type
array_type (Struct a) = a.data_type
array_type (Dictionary a) = a.data_type

abbrev pub array_slots : Array → List Slot
array_slots (Null a) = a.slots
array_slots (Boolean a) = a.slots
array_slots (Int8 a) = a.slots
array_slots (Int16 a) = a.slots
array_slots (Int32 a) = a.slots
array_slots (Int64 a) = a.slots
array_slots (UInt8 a) = a.slots
array_slots (UInt16 a) = a.slots
array_slots (UInt32 a) = a.slots
array_slots (UInt64 a) = a.slots
array_slots (Int128 a) = a.slots
array_slots (MonthDayNano a) = a.slots
array_slots (Utf8 a) = a.slots
array_slots (LargeUtf8 a) = a.slots
array_slots (Binary a) = a.slots
array_slots (LargeBinary a) = a.slots
array_slots (FixedSizeBinary a) = a.slots
array_slots (ListOf a) = a.slots
array_slots (LargeList a) = a.slots
array_slots (FixedSizeList a) = a.slots
array_slots (Struct a) = a.slots
array_slots (Dictionary a) = a.slots

-- the dictionaries of an array at every depth, in the order of the fields, but those among a dictionary's values: of each its slots, and
-- the slots of its values
abbrev pub dictionaries_of : Array → List (List Slot × List Slot)
dictionaries_of (ListOf a) = a.dictionaries
dictionaries_of (LargeList a) = a.dictionaries
dictionaries_of (FixedSizeList a) = a.dictionaries
dictionaries_of (Struct a) = a.dictionaries
dictionaries_of (Dictionary a) = (a.slots, a.items) ∷ []
dictionaries_of _ = []

-- those of several arrays, one array after another
abbrev pub all_dictionaries : List Array → List (List Slot × List Slot)
all_dictionaries [] = []
all_dictionaries (a ∷ arrays) = dictionaries_of a ++ all_dictionaries arrays

-- a Null array, all of whose slots are null, has no validity; that of a dictionary tells which keys are held, and that of any other array which slots
abbrev pub TellsValidity : Array → Option Packed → Type 0
TellsValidity (Null a) validity = validity ≡ None
TellsValidity (Dictionary a) validity = TellsHeld validity a.keys
TellsValidity a validity = TellsHeld validity (array_slots a)
