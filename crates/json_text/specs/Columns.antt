-- The columns beneath rows: what is prepared once for all rows. Private contracts cite it, those of the calls
-- that append parts of a row, and those of `json_write` and `avro_line`.
use Rattle.std.specs.Prelude.{◌≡◌, ◌≤◌, ℕ, ℤ, Bool, true, false, ◌==◌, List, [], ◌∷◌, ◌++◌, map, length, take, drop, codes, if◌then◌else◌}
use Rattle.std.specs.Fmt.{signed_decimal}
use Rattle.arrow_core.specs.declared.slot.Slot.{Integer}
use Rattle.arrow_core.specs.declared.types.Field.{Field}
use Rattle.arrow_core.specs.declared.types.DataType.{DataType, Row_of-Field, end_of-Field, more_of-Field, Row_of-DataType, end_of-DataType, more_of-DataType}
use Rattle.arrow_core.specs.declared.types.DataType as types
use Rattle.arrow_array.specs.declared.array.Array.{Array}
use Rattle.arrow_array.specs.Arrays.{array_type, array_slots}
use Rattle.arrow_array.specs.Slots.{slot_at}
use Rattle.arrow_base.specs.WrittenString.{json_string}
use Rattle.json_dates.specs.Civil.{is_printed_day}
use Rattle.json_dates.specs.Times.{date_json, day_of_milliseconds, is_printed_timestamp, timestamp_json}
use Rattle.json_text.specs.declared.columns.Column.{Column}
use Rattle.json_text.specs.declared.columns.Key.{Key}
use Rattle.json_text.specs.declared.columns.Key.TheVariants.{Short, Long}
use Rattle.json_text.specs.declared.integers.IntegerForm.{IntegerForm}
use Rattle.json_text.specs.declared.integers.IntegerForm.TheVariants.{Decimal, Days, Milliseconds, Timestamp}
use Rattle.json_text.specs.JsonText.{text}
use Rattle.json_text.specs.Refusals.{in_range}

-- the text of an integer by its form
abbrev pub integer_text : IntegerForm → ℤ → List ℕ
integer_text Decimal n = signed_decimal n
integer_text Days n = date_json n
integer_text Milliseconds n = date_json (day_of_milliseconds n)
integer_text (Timestamp unit offset) n = timestamp_json unit offset n

-- a date or timestamp is printed; of other integers each is
abbrev pub integer_in_range : IntegerForm → ℤ → Bool
integer_in_range Decimal n = true
integer_in_range Days n = is_printed_day n
integer_in_range Milliseconds n = is_printed_day (day_of_milliseconds n)
integer_in_range (Timestamp unit offset) n = is_printed_timestamp unit offset n

abbrev mutual
  -- the form is that of the integers of a type; of a type of lists or a dictionary, that of its items or values
  pub IsForm : IntegerForm → DataType → Type 0
  IsForm form (types.List' shape item) = IsItemForm form item
  IsForm form (types.LargeList' shape item) = IsItemForm form item
  IsForm form (types.FixedSizeList' shape item size) = IsItemForm form item
  IsForm form (types.Dictionary' key shape value is_sorted) = IsValueForm form value
  IsForm form data_type = (n : ℤ) → (integer_text form n ≡ text data_type (Integer n)) × (integer_in_range form n ≡ in_range data_type (Integer n))

  -- by the one field of a type of lists
  pub IsItemForm : {m : _} → IntegerForm → Row_of-Field m → Type 0
  IsItemForm form end_of-Field = Unit {0}
  IsItemForm form (more_of-Field name t is_nullable metadata rest) = IsForm form t

  -- by the one type of a dictionary's values
  pub IsValueForm : {m : _} → IntegerForm → Row_of-DataType m → Type 0
  IsValueForm form end_of-DataType = Unit {0}
  IsValueForm form (more_of-DataType t rest) = IsForm form t

-- the bytes of a key
abbrev pub key_bytes : Key → List ℕ
key_bytes (Short bytes len) = take len bytes
key_bytes (Long bytes) = bytes.items

-- what stands before the value of a member: a bracket or a comma, its name and a colon
abbrev pub key_of : Bool → List ℕ → List ℕ
key_of is_first name = (if is_first then codes "{" else codes ",") ++ (json_string name ++ codes ":")

abbrev mutual
  -- the columns within slots of a type: the members of its structs, at any depth of lists
  pub AreWithin : DataType → List Column → Type 0
  AreWithin (types.List' shape item) columns = AreInItem item columns
  AreWithin (types.LargeList' shape item) columns = AreInItem item columns
  AreWithin (types.FixedSizeList' shape item size) columns = AreInItem item columns
  AreWithin (types.Dictionary' key shape value is_sorted) columns = AreInValue value columns
  AreWithin (types.Struct' shape fields) columns = AreMembers true fields columns
  AreWithin _ columns = Unit {0}

  -- by the one field of a type of lists
  pub AreInItem : {m : _} → Row_of-Field m → List Column → Type 0
  AreInItem end_of-Field columns = Unit {0}
  AreInItem (more_of-Field name t is_nullable metadata rest) columns = AreWithin t columns

  -- by the one type of a dictionary's values
  pub AreInValue : {m : _} → Row_of-DataType m → List Column → Type 0
  AreInValue end_of-DataType columns = Unit {0}
  AreInValue (more_of-DataType t rest) columns = AreWithin t columns

  -- a column for each field of a struct, with its key, the form of its integers, and after it those within it
  pub AreMembers : {m : _} → Bool → Row_of-Field m → List Column → Type 0
  AreMembers is_first end_of-Field columns = length columns ≡ 0
  AreMembers is_first (more_of-Field name t is_nullable metadata rest) [] = ⊥
  AreMembers is_first (more_of-Field name t is_nullable metadata rest) (column ∷ columns) =
      ((key_bytes column.key ≡ key_of is_first name) × ((column.within ≤ length columns) × (IsForm column.form t × AreWithin t (take column.within columns))))
      × AreMembers false rest (drop column.within columns)

-- the same for each of these names, of these types
abbrev pub AreNamedFrom : Bool → List (List ℕ) → List DataType → List Column → Type 0
AreNamedFrom is_first [] [] columns = length columns ≡ 0
AreNamedFrom is_first (name ∷ names) (t ∷ types) (column ∷ columns) =
    ((key_bytes column.key ≡ key_of is_first name) × ((column.within ≤ length columns) × (IsForm column.form t × AreWithin t (take column.within columns))))
    × AreNamedFrom false names types (drop column.within columns)
AreNamedFrom is_first _ _ _ = ⊥

-- the columns of a row, or a struct, of these names and types
abbrev pub AreNamed : List (List ℕ) → List DataType → List Column → Type 0
AreNamed = AreNamedFrom true

-- the columns of the fields
abbrev pub AreFields : List Field → List Column → Type 0
AreFields fields = AreNamed (map (λ f. f.name) fields) (map (λ f. f.data_type) fields)

-- a column of this name and type was added, and after it those within it
pub record AddsColumn (name : List ℕ) (data_type : DataType) (old new : List Column) : Type 0 where
  pub column : Column
  pub beneath : List Column
  pub added : new ≡ old ++ (column ∷ beneath)
  pub key : key_bytes column.key ≡ key_of (length old == 0) name
  pub within : column.within ≡ length beneath
  pub form : IsForm column.form data_type
  pub are_within : AreWithin data_type beneath

-- a column for each array, whatever its key
abbrev pub AreColumns : List Array → List Column → Type 0
AreColumns [] columns = Unit {0}
AreColumns (array ∷ arrays) [] = ⊥
AreColumns (array ∷ arrays) (column ∷ columns) =
    ((column.within ≤ length columns) × (IsForm column.form (array_type array) × AreWithin (array_type array) (take column.within columns)))
    × AreColumns arrays (drop column.within columns)

-- the keys, each with its value at index i after it
abbrev pub columns_text : List Array → List Column → ℕ → List ℕ
columns_text (array ∷ arrays) (column ∷ columns) i =
    key_bytes column.key ++ (text (array_type array) (slot_at (array_slots array) i) ++ columns_text arrays (drop column.within columns) i)
columns_text _ _ i = []

-- the object of the values at index i
abbrev pub columns_object : List Array → List Column → ℕ → List ℕ
columns_object [] columns i = codes "{}"
columns_object (array ∷ arrays) columns i = columns_text (array ∷ arrays) columns i ++ codes "}"
