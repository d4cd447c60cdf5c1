-- The sum of the integers that the rows of lines have under one key.
use Rattle.std.specs.Prelude.{◌≡◌, ℕ, ◌<◌, ◌^◌, ℤ, pos, ◌+ℤ◌, List, [], ◌++◌, length, fold, option_map, slice_get, Some, IsTrue}
use Rattle.std.specs.List.{AllZip}
use Rattle.arrow_array.specs.Slots.{slot_at, is_held}
use Rattle.arrow_core.specs.declared.slot.Slot.{Slot, out-Slot}
use Rattle.arrow_core.specs.declared.slot.Slot.TheOpen as layer
use Rattle.arrow_core.specs.declared.slot.Slot.TheVariants as slot
use Rattle.arrow_core.specs.declared.types.DataType.{DataType}
use Rattle.arrow_core.specs.declared.types.Field.{Field}
use Rattle.json_infer.specs.Parts.{members_of}
use Rattle.ndjson.specs.Columns.{IsColumnOf}
use Rattle.ndjson_read.specs.Inference.{Told, InfersType}
use Rattle.ndjson_read.specs.Lines.{rows_of}

-- the integer of a slot, 0 where it is none
abbrev pub long_of : Slot → ℤ
long_of (slot.Integer n) = n
long_of _ = pos 0

abbrev pub field_in : ℕ → layer.Slot-F Slot → Slot
field_in place (layer.Struct slots) = slot_at slots place
field_in place _ = slot.Null

-- the slot that a row has in a field, null where the row is
abbrev pub field_of : ℕ → Slot → Slot
field_of place row = field_in place (out-Slot row)

-- n, and the integers that rows have in the field
abbrev pub added : ℕ → ℤ → List Slot → ℤ
added place n rows = fold (λ m row. m +ℤ long_of (field_of place row)) n rows

-- rows of this type are structs, whose field at this place has this name
abbrev pub HasFieldAt : DataType → ℕ → List ℕ → Type 0
HasFieldAt row_type place name = option_map (λ (field : Field). field.name) (slice_get (members_of row_type) place) ≡ Some name

-- the rows of batches, in order
abbrev pub rows_in : List (List (List ℕ)) → List (List ℕ)
rows_in batches = fold (λ rows batch. rows ++ batch) [] batches

-- each batch of rows has its column, of this type
abbrev pub AreColumnsOf : DataType → List (List (List ℕ)) → List (List Slot) → Type 0
AreColumnsOf row_type batches columns = AllZip (λ batch column. IsColumnOf batch row_type row_type column) batches columns

-- The rows of the bytes are batches, each with its column of one type, and n is the sum of the integers that the columns have in the
-- field of this name. The type is that of the first 1000 rows of a source of which so much is told, within 2^40 bytes.
pub record IsSumOfLines (first : Told) (key bytes : List ℕ) (n : ℤ) : Type 0 where
  pub row_type : DataType
  pub after : Told
  pub inferred : InfersType (Some 1000) (2 ^ 40) first after row_type
  pub place : ℕ
  pub named : HasFieldAt row_type place key
  pub batches : List (List (List ℕ))
  pub all_rows : rows_in batches ≡ rows_of bytes
  pub columns : List (List Slot)
  pub are_columns : AreColumnsOf row_type batches columns
  pub is_sum : n ≡ fold (added place) (pos 0) columns

-- ---- cited by private contracts alone

-- the column has as many slots as there are rows, and of a row that isn't null the slot in the field
pub record IsFieldOf (place : ℕ) (rows column : List Slot) : Type 0 where
  pub as_many : length column ≡ length rows
  pub same : (k : ℕ) → k < length rows → IsTrue (is_held (slot_at rows k)) → field_of place (slot_at rows k) ≡ slot_at column k
