-- What the texts of slots and rows stand for, each of which a function of this crate has for its contract.
use Rattle.std.specs.Prelude.{◌≡◌, ◌≤◌, ℕ, Bool, true, false, ◌&&◌, List, [], ◌∷◌, ◌++◌, codes, flat_map, length, map}
use Rattle.std.specs.List.{All, AllZip, list_all}
use Rattle.std.specs.Str.{IsUtf8}
use Rattle.arrow_core.specs.declared.slot.Slot.{Slot}
use Rattle.arrow_core.specs.declared.types.DataType.{DataType, Row_of-Field, end_of-Field, more_of-Field}
use Rattle.arrow_core.specs.declared.types.DataType as types
use Rattle.arrow_array.specs.SlotTypes.{SlotOf}
use Rattle.json_text.specs.JsonText.{text}
use Rattle.json_text.specs.Refusals.{has_text, in_range}
use Rattle.json_write.specs.Rows.{lines, row_object}
use Rattle.json_tree.specs.Tree.{Json}
use Rattle.json_tree.specs.Meaning.{IsJson, IsJsonText}
use Rattle.json_tree.specs.declared.value.Value.{out-Value}
use Rattle.json_flat.specs.Meaning.{Meaning, slot_of}
use Rattle.json_flat.specs.Columns.{AreSlotsOf, means}
use Rattle.json_columns.specs.Gathered.{member_in}
use Rattle.json_flat.specs.Names.{names_twice, repeat}
use Rattle.json_flat.specs.Reading.{has_reading, reading}
use Rattle.ndjson_read.specs.Lines.{rows_of}
use Rattle.ndjson.specs.Depth.{depth, row_depth}
use Rattle.ndjson.specs.Values.{row_value, value}

abbrev mutual
  -- the names of the fields in a type, at any depth, are UTF-8
  pub HasUtf8Names : DataType → Type 0
  HasUtf8Names (types.List' shape item) = HaveUtf8Names item
  HasUtf8Names (types.LargeList' shape item) = HaveUtf8Names item
  HasUtf8Names (types.FixedSizeList' shape item size) = HaveUtf8Names item
  HasUtf8Names (types.Struct' shape fields) = HaveUtf8Names fields
  HasUtf8Names _ = Unit {0}

  -- the same of each field
  pub HaveUtf8Names : {m : _} → Row_of-Field m → Type 0
  HaveUtf8Names end_of-Field = Unit {0}
  HaveUtf8Names (more_of-Field name t is_nullable metadata rest) = IsUtf8 name × HasUtf8Names t × HaveUtf8Names rest

-- the text of a slot is a JSON text that stands for the slot's value
abbrev pub TextsAreJson : Type 0
TextsAreJson =
    (t : DataType) (x : Slot) → has_text t ≡ true → HasUtf8Names t → SlotOf t x → in_range t x ≡ true
    → IsJsonText (value t x) (text t x)

-- where a type is no deeper than `parse` goes, so that it answers by that value, or by out of memory
abbrev pub TextsAreShallow : Type 0
TextsAreShallow =
    (t : DataType) (x : Slot) → has_text t ≡ true → HasUtf8Names t → SlotOf t x → in_range t x ≡ true → depth t ≤ 128
    → IsJson (value t x) (text t x)

abbrev mutual
  -- no date or timestamp is in a type, at any depth
  pub has_no_dates : DataType → Bool
  has_no_dates types.Date32 = false
  has_no_dates types.Date64 = false
  has_no_dates (types.Timestamp unit timezone) = false
  has_no_dates (types.List' shape item) = have_no_dates item
  has_no_dates (types.LargeList' shape item) = have_no_dates item
  has_no_dates (types.FixedSizeList' shape item size) = have_no_dates item
  has_no_dates (types.Struct' shape fields) = have_no_dates fields
  has_no_dates _ = true

  -- the same of each field
  pub have_no_dates : {m : _} → Row_of-Field m → Bool
  have_no_dates end_of-Field = true
  have_no_dates (more_of-Field name t is_nullable metadata rest) = has_no_dates t && have_no_dates rest

-- slots of the type are written as they are read: it has a text and a reading, holds no date or timestamp, and names no
-- field of a struct twice
pub record IsReadAsWritten (t : DataType) : Type 0 where
  pub text : has_text t ≡ true
  pub reading : has_reading t ≡ true
  pub no_dates : has_no_dates t ≡ true
  pub names : names_twice t ≡ false

-- the value of a slot means that slot
abbrev pub ValuesMeanSlots : Type 0
ValuesMeanSlots = (t : DataType) (x : Slot) → IsReadAsWritten t → SlotOf t x → means (reading t) (value t x) ≡ slot_of x

-- so does whatever value the slot's text stands for
abbrev pub TextsReadBack : Type 0
TextsReadBack =
    (t : DataType) (x : Slot) (v : Json) → IsReadAsWritten t → HasUtf8Names t → SlotOf t x → IsJsonText v (text t x)
    → means (reading t) v ≡ slot_of x

-- a column that has for each value of some slots the slot that it means has these slots
abbrev pub ColumnsReadBack : Type 0
ColumnsReadBack =
    (t : DataType) (xs ys : List Slot) → IsReadAsWritten t → All (SlotOf t) xs → AreSlotsOf (reading t) (map (value t) xs) ys
    → ys ≡ xs

-- a row whose slots have texts
pub record HasTexts (names : List (List ℕ)) (data_types : List DataType) (row : List Slot) : Type 0 where
  pub names_utf8 : All IsUtf8 names
  pub text : All (λ t. has_text t ≡ true) data_types
  pub utf8 : All HasUtf8Names data_types
  pub typed : AllZip SlotOf data_types row
  pub in_range : AllZip (λ t x. in_range t x ≡ true) data_types row

-- the object of a row, and its line, stand for the object of the row's values
abbrev pub RowsAreJson : Type 0
RowsAreJson =
    (names : List (List ℕ)) (data_types : List DataType) (row : List Slot) → HasTexts names data_types row
    → IsJsonText (row_value names data_types row) (row_object names data_types row)
    × IsJsonText (row_value names data_types row) (row_object names data_types row ++ codes "\n")

-- the same, no deeper than `parse` goes
abbrev pub RowsAreShallow : Type 0
RowsAreShallow =
    (names : List (List ℕ)) (data_types : List DataType) (row : List Slot) → HasTexts names data_types row → row_depth data_types ≤ 128
    → IsJson (row_value names data_types row) (row_object names data_types row)
    × IsJson (row_value names data_types row) (row_object names data_types row ++ codes "\n")

-- a row whose slots are read as they are written, under names that differ
pub record IsRowReadAsWritten (names : List (List ℕ)) (data_types : List DataType) (row : List Slot) : Type 0 where
  pub names_utf8 : All IsUtf8 names
  pub distinct : repeat names ≡ false
  pub as_many : length names ≡ length data_types
  pub read : All IsReadAsWritten data_types
  pub utf8 : All HasUtf8Names data_types
  pub typed : AllZip SlotOf data_types row

-- what the members of these names mean under these types
abbrev pub row_meanings : List (List ℕ) → List DataType → Json → List Meaning
row_meanings (name ∷ names) (t ∷ data_types) v = means (reading t) (member_in name (out-Value v)) ∷ row_meanings names data_types v
row_meanings _ _ v = []

-- the members of a row's value mean the row's slots
abbrev pub RowValuesMeanRows : Type 0
RowValuesMeanRows =
    (names : List (List ℕ)) (data_types : List DataType) (row : List Slot) → IsRowReadAsWritten names data_types row
    → row_meanings names data_types (row_value names data_types row) ≡ map slot_of row

-- so do those of whatever value the row's line stands for
abbrev pub LinesReadBack : Type 0
LinesReadBack =
    (names : List (List ℕ)) (data_types : List DataType) (row : List Slot) (v : Json) → IsRowReadAsWritten names data_types row
    → IsJsonText v (row_object names data_types row ++ codes "\n") → row_meanings names data_types v ≡ map slot_of row

-- the lines of a table are rows (`rows_of`), each the line of a row of the table
abbrev pub LinesAreRows : Type 0
LinesAreRows =
    (names : List (List ℕ)) (data_types : List DataType) (table : List (List Slot)) → All (HasTexts names data_types) table
    → rows_of (lines names data_types table) ≡ map (λ row. row_object names data_types row ++ codes "\n") table

-- so are the lines of slots, each the text of a slot and a line feed
abbrev pub SlotLinesAreRows : Type 0
SlotLinesAreRows =
    (t : DataType) (xs : List Slot) → has_text t ≡ true → HasUtf8Names t → All (SlotOf t) xs → list_all (in_range t) xs ≡ true
    → rows_of (flat_map (λ x. text t x ++ codes "\n") xs) ≡ map (λ x. text t x ++ codes "\n") xs
