-- The slot that a JSON value (RFC 8259, section 3) means under a data type, of the types that have a reading.
use Rattle.std.specs.Prelude.{ℕ, pos, negsuc, Bool, true, false, not, ◌&&◌, ◌==◌, cond, length, List, [], ◌∷◌, map}
use Rattle.arrow_core.specs.declared.slot.Slot.{Slot}
use Rattle.arrow_core.specs.declared.slot.Slot.TheVariants as slot
use Rattle.arrow_core.specs.declared.types.DataType.{DataType, Row_of-Field, end_of-Field, more_of-Field, Row_of-DataType, end_of-DataType, more_of-DataType}
use Rattle.arrow_core.specs.declared.types.DataType as types
use Rattle.arrow_core.specs.declared.types.IntervalUnit.TheVariants as interval
use Rattle.json_tree.specs.Keys.{value_of}
use Rattle.json_tree.specs.Tree.{Json, or_null}
use Rattle.json_tree.specs.declared.value.Value.{out-Value}
use Rattle.json_tree.specs.declared.value.Value.TheOpen as layer
use Rattle.json_flat.specs.Meaning.{Meaning, Layer, slot_of, text_timestamp, unfit, null_in, boolean_in, whole_in, int64_in, moment_in, text_in, bytes_in}

-- ---- several values

-- the slots of several values; or that a text stands under a timestamp; or else that a value doesn't fit
pub data Together : Type 0 where
  all_slots : List Slot → Together
  some_text : Together
  some_unfit : Together

-- one value and those after it
abbrev pub beside : Meaning → Together → Together
beside (slot_of s) (all_slots ss) = all_slots (s ∷ ss)
beside (slot_of s) some_text = some_text
beside (slot_of s) some_unfit = some_unfit
beside text_timestamp more = some_text
beside unfit (all_slots ss) = some_unfit
beside unfit some_text = some_text
beside unfit some_unfit = some_unfit

abbrev pub together : List Meaning → Together
together [] = all_slots []
together (m ∷ ms) = beside m (together ms)

-- the list or the struct of several slots
abbrev pub made_of : (List Slot → Slot) → Together → Meaning
made_of make (all_slots ss) = slot_of (make ss)
made_of make some_text = text_timestamp
made_of make some_unfit = unfit

-- ---- values with values in them

-- the list of an array's items; else null
abbrev pub list_in : (Json → Meaning) → Layer → Meaning
list_in item (layer.Array items) = made_of slot.List (together (map item items))
list_in item _ = slot_of slot.Null

-- the list of an array's items, where there are so many; else null
abbrev pub sized_list_in : ℕ → (Json → Meaning) → Layer → Meaning
sized_list_in size item (layer.Array items) = cond (length items == size) (made_of slot.List (together (map item items))) (slot_of slot.Null)
sized_list_in size item _ = slot_of slot.Null

-- the struct of an object's members, one for each field; else null
abbrev pub struct_in : (List (List ℕ × Json) → List Meaning) → Layer → Meaning
struct_in members (layer.Object object) = made_of slot.Struct (together (members object.members))
struct_in members _ = slot_of slot.Null

-- ---- types

-- an integer of 32 bits
abbrev pub int32_in : Layer → Meaning
int32_in = whole_in (negsuc 2147483647) (pos 2147483647)

abbrev mutual
  -- what a value means under a type that has a reading (`has_reading`); no answer is Ok for another type
  pub reading : DataType → Layer → Meaning
  reading types.Null = null_in
  reading types.Boolean = boolean_in
  reading types.Int8 = whole_in (negsuc 127) (pos 127)
  reading types.Int16 = whole_in (negsuc 32767) (pos 32767)
  reading types.Int32 = int32_in
  reading types.Int64 = int64_in
  reading types.UInt8 = whole_in (pos 0) (pos 255)
  reading types.UInt16 = whole_in (pos 0) (pos 65535)
  reading types.UInt32 = whole_in (pos 0) (pos 4294967295)
  reading types.UInt64 = whole_in (pos 0) (pos 18446744073709551615)
  reading types.Date32 = int32_in
  reading types.Date64 = int64_in
  reading (types.Time32 unit) = int32_in
  reading (types.Time64 unit) = int64_in
  reading (types.Duration unit) = int64_in
  reading (types.Interval unit) = int32_in
  reading (types.Timestamp unit timezone) = moment_in
  reading types.Utf8 = text_in
  reading types.LargeUtf8 = text_in
  reading types.Binary = bytes_in
  reading types.LargeBinary = bytes_in
  reading (types.List' shape item) = list_in (item_meaning item)
  reading (types.LargeList' shape item) = list_in (item_meaning item)
  reading (types.FixedSizeList' shape item size) = sized_list_in size (item_meaning item)
  reading (types.Struct' shape fields) = struct_in (member_meanings fields)
  reading (types.Dictionary' key shape value is_sorted) = inner_reading value
  reading _ = null_in

  -- an item, by the one field of a type of lists
  pub item_meaning : {m : _} → Row_of-Field m → Json → Meaning
  item_meaning end_of-Field value = slot_of slot.Null
  item_meaning (more_of-Field name t is_nullable metadata rest) value = reading t (out-Value value)

  -- the members of an object by the names of fields; one that is missing is null
  pub member_meanings : {m : _} → Row_of-Field m → List (List ℕ × Json) → List Meaning
  member_meanings end_of-Field members = []
  member_meanings (more_of-Field name t is_nullable metadata rest) members = reading t (out-Value (or_null (value_of name members))) ∷ member_meanings rest members

  -- by the one type of a dictionary's values
  pub inner_reading : {m : _} → Row_of-DataType m → Layer → Meaning
  inner_reading end_of-DataType = null_in
  inner_reading (more_of-DataType t rest) = reading t

abbrev pub has_field : {m : _} → Row_of-Field m → Bool
has_field end_of-Field = false
has_field (more_of-Field name t is_nullable metadata rest) = true

-- the types of a dictionary's values under which values are read
abbrev pub is_value_type : DataType → Bool
is_value_type types.Utf8 = true
is_value_type types.LargeUtf8 = true
is_value_type types.Int8 = true
is_value_type types.Int16 = true
is_value_type types.Int32 = true
is_value_type types.Int64 = true
is_value_type _ = false

abbrev pub inner_is_value_type : {m : _} → Row_of-DataType m → Bool
inner_is_value_type end_of-DataType = false
inner_is_value_type (more_of-DataType t rest) = is_value_type t

abbrev mutual
  -- whether values are read under a type
  pub has_reading : DataType → Bool
  has_reading types.Null = true
  has_reading types.Boolean = true
  has_reading types.Int8 = true
  has_reading types.Int16 = true
  has_reading types.Int32 = true
  has_reading types.Int64 = true
  has_reading types.UInt8 = true
  has_reading types.UInt16 = true
  has_reading types.UInt32 = true
  has_reading types.UInt64 = true
  has_reading types.Date32 = true
  has_reading types.Date64 = true
  has_reading (types.Time32 unit) = true
  has_reading (types.Time64 unit) = true
  has_reading (types.Duration unit) = true
  has_reading (types.Interval interval.YearMonth) = true
  has_reading (types.Timestamp unit timezone) = true
  has_reading types.Utf8 = true
  has_reading types.LargeUtf8 = true
  has_reading types.Binary = true
  has_reading types.LargeBinary = true
  has_reading (types.List' shape item) = have_reading item
  has_reading (types.LargeList' shape item) = have_reading item
  has_reading (types.FixedSizeList' shape item size) = not (size == 0) && have_reading item
  has_reading (types.Struct' shape fields) = has_field fields && have_reading fields
  has_reading (types.Dictionary' key shape value is_sorted) = inner_is_value_type value
  has_reading _ = false

  -- whether they are under the type of each field
  pub have_reading : {m : _} → Row_of-Field m → Bool
  have_reading end_of-Field = true
  have_reading (more_of-Field name t is_nullable metadata rest) = has_reading t && have_reading rest
