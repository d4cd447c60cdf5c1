-- Which slots an array of a data type has (Arrow columnar format, "Physical Memory Layout" and
-- "Logical Types").
use mir.Syntax.{Width, w8, w16, w32, w64, w128}
use Rattle.std.specs.Prelude.{◌≡◌, ℕ, ◌^◌, ◌<◌, ◌≤◌, ℤ, pos, Bool, false, true, List, [], ◌∷◌, length, IsTrue, All}
use Rattle.std.specs.Int.RustNames.{FitsSigned}
use Rattle.std.specs.Str.{IsUtf8}
use Rattle.arrow_core.specs.declared.physical.PhysicalType.{PhysicalType}
use Rattle.arrow_core.specs.declared.physical.PhysicalType.TheVariants as physical
use Rattle.arrow_core.specs.declared.physical.PrimitiveType.{PrimitiveType}
use Rattle.arrow_core.specs.declared.physical.PrimitiveType.TheVariants as primitive
use Rattle.arrow_core.specs.declared.slot.Slot.{Slot}
use Rattle.arrow_core.specs.declared.slot.Slot.TheVariants as slot
use Rattle.arrow_core.specs.declared.types.DataType.{DataType, FixedSizeBinary, List', FixedSizeList', LargeList', Struct', Dictionary', Extension', Row_of-Field, end_of-Field, more_of-Field, Row_of-DataType, end_of-DataType, more_of-DataType}
use Rattle.arrow_core.specs.Layouts.{physical_type}
use Rattle.arrow_core.specs.Numbers.{greatest_offset}
use Rattle.arrow_array.specs.declared.array.Array.{Array}
use Rattle.arrow_array.specs.Arrays.{array_type, array_slots}
use Rattle.arrow_array.specs.Slots.{is_held}

-- a null, or such a slot
abbrev pub IfHeld : (Slot → Type 0) → Slot → Type 0
IfHeld P x = IsTrue (is_held x) → P x

-- a boolean
abbrev pub IsBoolean : Slot → Type 0
IsBoolean x = (b : Bool) × (x ≡ slot.Boolean b)

-- a signed integer of this width
abbrev pub IsSigned : Width → Slot → Type 0
IsSigned width x = (n : ℤ) × (x ≡ slot.Integer n) × FitsSigned width n

-- an unsigned integer of so many bits
abbrev pub IsUnsigned : ℕ → Slot → Type 0
IsUnsigned bits x = (n : ℕ) × (x ≡ slot.Integer (pos n)) × (n < 2 ^ bits)

-- an interval: its months, its days and its nanoseconds
abbrev pub IsInterval : Slot → Type 0
IsInterval x = (months : ℤ) × (days : ℤ) × (ns : ℤ)
    × (x ≡ slot.Struct (slot.Integer months ∷ slot.Integer days ∷ slot.Integer ns ∷ []))
    × FitsSigned w32 months × FitsSigned w32 days × FitsSigned w64 ns

-- a value that lies in memory so; nothing, for the layouts that no array has
abbrev pub IsPrimitive : PrimitiveType → Slot → Type 0
IsPrimitive primitive.Int8 x = IsSigned w8 x
IsPrimitive primitive.Int16 x = IsSigned w16 x
IsPrimitive primitive.Int32 x = IsSigned w32 x
IsPrimitive primitive.Int64 x = IsSigned w64 x
IsPrimitive primitive.Int128 x = IsSigned w128 x
IsPrimitive primitive.UInt8 x = IsUnsigned 8 x
IsPrimitive primitive.UInt16 x = IsUnsigned 16 x
IsPrimitive primitive.UInt32 x = IsUnsigned 32 x
IsPrimitive primitive.UInt64 x = IsUnsigned 64 x
IsPrimitive primitive.MonthDayNano x = IsInterval x
IsPrimitive _ x = ⊥

-- a UTF-8 string of no more bytes than offsets of 32 bits, or of 64, can count
abbrev pub IsString : Bool → Slot → Type 0
IsString is_large x = (bytes : List ℕ) × (x ≡ slot.String bytes) × IsUtf8 bytes
    × (length bytes ≤ greatest_offset is_large)

-- a binary value of no more bytes than offsets of 32 bits, or of 64, can count
abbrev pub IsBinary : Bool → Slot → Type 0
IsBinary is_large x = (bytes : List ℕ) × (x ≡ slot.Binary bytes)
    × (length bytes ≤ greatest_offset is_large)

-- a binary value of this size
abbrev pub IsFixedBinary : ℕ → Slot → Type 0
IsFixedBinary width x = (bytes : List ℕ) × (x ≡ slot.Binary bytes) × (length bytes ≡ width)

-- what a slot that isn't null holds, of a type with nothing beneath it; nothing, where no array is of
-- such a type
abbrev pub IsFlat : PhysicalType → Slot → Type 0
IsFlat physical.Boolean x = IsBoolean x
IsFlat (physical.Primitive primitive) x = IsPrimitive primitive x
IsFlat physical.Utf8 x = IsString false x
IsFlat physical.LargeUtf8 x = IsString true x
IsFlat physical.Binary x = IsBinary false x
IsFlat physical.LargeBinary x = IsBinary true x
IsFlat _ x = ⊥

-- a list of such items, no more than offsets of 32 bits, or of 64, can count
abbrev pub IsListOfSlots : Bool → (Slot → Type 0) → Slot → Type 0
IsListOfSlots is_large P x = (items : List Slot) × (x ≡ slot.List items)
    × (length items ≤ greatest_offset is_large) × All P items

-- a list of so many such items
abbrev pub IsFixedListOfSlots : ℕ → (Slot → Type 0) → Slot → Type 0
IsFixedListOfSlots size P x = (items : List Slot) × (x ≡ slot.List items) × (length items ≡ size)
    × All P items

-- a struct of such slots
abbrev pub IsStructOfSlots : (List Slot → Type 0) → Slot → Type 0
IsStructOfSlots P x = (slots : List Slot) × (x ≡ slot.Struct slots) × P slots

abbrev mutual
  -- a slot of an array of this type
  pub SlotOf : DataType → Slot → Type 0
  SlotOf (FixedSizeBinary width) x = IfHeld (IsFixedBinary width) x
  SlotOf (List' shape item) x = IfHeld (IsListOfSlots false (ItemOf item)) x
  SlotOf (LargeList' shape item) x = IfHeld (IsListOfSlots true (ItemOf item)) x
  SlotOf (FixedSizeList' shape item size) x = IfHeld (IsFixedListOfSlots size (ItemOf item)) x
  SlotOf (Struct' shape fields) x = IfHeld (IsStructOfSlots (FieldsOf fields)) x
  SlotOf (Dictionary' key shape value is_sorted) x = ValueOf value x
  SlotOf (Extension' name shape inner metadata) x = ValueOf inner x
  SlotOf t x = IfHeld (IsFlat (physical_type t)) x

  -- the same of the one field of a list
  pub ItemOf : {m : _} → Row_of-Field m → Slot → Type 0
  ItemOf end_of-Field x = ⊥
  ItemOf (more_of-Field name t is_nullable metadata rest) x = SlotOf t x

  -- a slot for each field, in order
  pub FieldsOf : {m : _} → Row_of-Field m → List Slot → Type 0
  FieldsOf end_of-Field [] = Unit {0}
  FieldsOf end_of-Field (x ∷ xs) = ⊥
  FieldsOf (more_of-Field name t is_nullable metadata rest) [] = ⊥
  FieldsOf (more_of-Field name t is_nullable metadata rest) (x ∷ xs) = SlotOf t x × FieldsOf rest xs

  -- the same of the one type that a dictionary has of its values, or an extension beneath it
  pub ValueOf : {m : _} → Row_of-DataType m → Slot → Type 0
  ValueOf end_of-DataType x = x ≡ slot.Null
  ValueOf (more_of-DataType t rest) x = SlotOf t x

-- the slots of an array are of its type
abbrev pub IsTyped : Array → Type 0
IsTyped array = All (SlotOf (array_type array)) (array_slots array)
