-- Which arrays have a JSON text.
use Rattle.std.specs.Prelude.{ℕ, ℤ, Bool, true, false, not, ◌&&◌, Option, Some, None, List, [], ◌∷◌, if◌then◌else◌}
use Rattle.std.specs.Option.{is_some}
use Rattle.std.specs.List.{list_all}
use Rattle.arrow_core.specs.declared.error.Error.{Error}
use Rattle.arrow_core.specs.declared.error.Error.TheVariants.{NotYetImplemented, InvalidArgumentError}
use Rattle.arrow_core.specs.declared.error.Reason.TheVariants.{NoJsonText, ZoneOffset, DateRange}
use Rattle.arrow_core.specs.declared.slot.Slot.{Slot, Integer, List', Struct', items-the_row-Slot}
use Rattle.arrow_core.specs.declared.types.DataType.{DataType, Row_of-Field, end_of-Field, more_of-Field, Row_of-DataType, end_of-DataType, more_of-DataType}
use Rattle.arrow_core.specs.declared.types.DataType as types
use Rattle.arrow_core.specs.declared.types.Field.{Field}
use Rattle.json_dates.specs.Civil.{is_printed_day}
use Rattle.json_dates.specs.Times.{day_of_milliseconds, is_printed_timestamp, offset_of}
use Rattle.json_text.specs.JsonText.{zone_offset}

-- a type of strings
abbrev pub is_string_type : DataType → Bool
is_string_type types.Utf8 = true
is_string_type types.LargeUtf8 = true
is_string_type _ = false

-- the one type of a dictionary's values is of strings
abbrev pub has_string_values : {m : _} → Row_of-DataType m → Bool
has_string_values end_of-DataType = false
has_string_values (more_of-DataType t rest) = is_string_type t

abbrev mutual
  -- the slots of a type have a JSON text: nulls, booleans, integers of at most 64 bits, strings and
  -- dictionaries of strings, dates and timestamps, and lists and structs of these
  pub has_text : DataType → Bool
  has_text types.Null = true
  has_text types.Boolean = true
  has_text types.Int8 = true
  has_text types.Int16 = true
  has_text types.Int32 = true
  has_text types.Int64 = true
  has_text types.UInt8 = true
  has_text types.UInt16 = true
  has_text types.UInt32 = true
  has_text types.UInt64 = true
  has_text (types.Timestamp unit timezone) = true
  has_text types.Date32 = true
  has_text types.Date64 = true
  has_text types.Utf8 = true
  has_text types.LargeUtf8 = true
  has_text (types.List' shape item) = have_texts item
  has_text (types.LargeList' shape item) = have_texts item
  has_text (types.FixedSizeList' shape item size) = have_texts item
  has_text (types.Struct' shape fields) = have_texts fields
  has_text (types.Dictionary' key shape value is_sorted) = has_string_values value
  has_text _ = false

  -- the same of each field
  pub have_texts : {m : _} → Row_of-Field m → Bool
  have_texts end_of-Field = true
  have_texts (more_of-Field name t is_nullable metadata rest) = has_text t && have_texts rest

-- a zone, if there is one, is an offset
abbrev pub is_offset : Option (List ℕ) → Bool
is_offset None = true
is_offset (Some zone) = is_some (offset_of zone)

abbrev mutual
  -- the zone of each timestamp in a type, at any depth, is an offset
  pub has_offsets : DataType → Bool
  has_offsets (types.Timestamp unit timezone) = is_offset timezone
  has_offsets (types.List' shape item) = have_offsets item
  has_offsets (types.LargeList' shape item) = have_offsets item
  has_offsets (types.FixedSizeList' shape item size) = have_offsets item
  has_offsets (types.Struct' shape fields) = have_offsets fields
  has_offsets _ = true

  -- the same of each field
  pub have_offsets : {m : _} → Row_of-Field m → Bool
  have_offsets end_of-Field = true
  have_offsets (more_of-Field name t is_nullable metadata rest) = has_offsets t && have_offsets rest

-- which slots of a data type are in range where the type decides it: integers, lists and structs
pub record Range : Type 0 where
  pub integer : ℤ → Bool
  pub list : List Slot → Bool
  pub struct : List Slot → Bool

-- a slot
abbrev pub slot_in_range : Range → Slot → Bool
slot_in_range range (Integer n) = range.integer n
slot_in_range range (List' shape slots) = range.list (items-the_row-Slot _ slots)
slot_in_range range (Struct' shape slots) = range.struct (items-the_row-Slot _ slots)
slot_in_range range _ = true

-- a type with these integers in range
abbrev pub integers_in : (ℤ → Bool) → Range
integers_in integer = record { integer = integer; list = λ _. true; struct = λ _. true }

-- a type of lists, and of structs, with these slots in range
abbrev pub lists_in : (Slot → Bool) → Range
lists_in item = record { integer = λ _. true; list = list_all item; struct = λ _. true }

abbrev pub structs_in : (List Slot → Bool) → Range
structs_in fields = record { integer = λ _. true; list = λ _. true; struct = fields }

abbrev mutual
  -- which slots of a type are in range: each date and timestamp in them is printed, in a year from 0 to 9999
  pub range_of : DataType → Range
  range_of types.Date32 = integers_in is_printed_day
  range_of types.Date64 = integers_in (λ n. is_printed_day (day_of_milliseconds n))
  range_of (types.Timestamp unit timezone) = integers_in (is_printed_timestamp unit (zone_offset timezone))
  range_of (types.List' shape item) = lists_in (item_in_range item)
  range_of (types.LargeList' shape item) = lists_in (item_in_range item)
  range_of (types.FixedSizeList' shape item size) = lists_in (item_in_range item)
  range_of (types.Struct' shape fields) = structs_in (fields_in_range fields)
  range_of (types.Dictionary' key shape value is_sorted) = value_range value
  range_of _ = integers_in (λ _. true)

  -- an item, by the one field of a type of lists
  pub item_in_range : {m : _} → Row_of-Field m → Slot → Bool
  item_in_range end_of-Field slot = true
  item_in_range (more_of-Field name t is_nullable metadata rest) slot = slot_in_range (range_of t) slot

  -- the fields of a struct
  pub fields_in_range : {m : _} → Row_of-Field m → List Slot → Bool
  fields_in_range end_of-Field slots = true
  fields_in_range (more_of-Field name t is_nullable metadata rest) [] = true
  fields_in_range (more_of-Field name t is_nullable metadata rest) (slot ∷ slots) = slot_in_range (range_of t) slot && fields_in_range rest slots

  -- by the one type of a dictionary's values
  pub value_range : {m : _} → Row_of-DataType m → Range
  value_range end_of-DataType = integers_in (λ _. true)
  value_range (more_of-DataType t rest) = range_of t

-- the dates that a slot of a type shows are in the years 0 to 9999
abbrev pub in_range : DataType → Slot → Bool
in_range data_type = slot_in_range (range_of data_type)

-- why an array of this type and these slots has no JSON text, if it has none
abbrev pub refusal : DataType → List Slot → Option Error
refusal data_type slots =
    if not (has_text data_type) then Some (NotYetImplemented NoJsonText)
    else if not (has_offsets data_type) then Some (InvalidArgumentError ZoneOffset)
    else if not (list_all (in_range data_type) slots) then Some (InvalidArgumentError DateRange)
    else None

-- the same of a slot for each field, in order
abbrev pub all_in_range : List Field → List Slot → Bool
all_in_range (field ∷ fields) (slot ∷ slots) = in_range field.data_type slot && all_in_range fields slots
all_in_range _ _ = true
