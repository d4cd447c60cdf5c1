-- The JSON objects of rows (RFC 8259, section 4).
use Rattle.std.specs.Prelude.{ℕ, zero, suc, List, [], ◌∷◌, ◌++◌, map, flat_map, codes, length, Option, Some, None, if◌then◌else◌, ◌==◌}
use Rattle.arrow_core.specs.declared.error.Error.{Error}
use Rattle.arrow_core.specs.declared.error.Error.TheVariants.{InvalidArgumentError}
use Rattle.arrow_core.specs.declared.error.Reason.TheVariants.{Lengths}
use Rattle.arrow_core.specs.declared.slot.Slot.{Slot}
use Rattle.arrow_core.specs.declared.types.DataType.{DataType}
use Rattle.arrow_core.specs.declared.types.Field.{Field}
use Rattle.arrow_array.specs.declared.array.Array.{Array}
use Rattle.arrow_array.specs.Arrays.{array_type, array_slots}
use Rattle.arrow_array.specs.Slots.{slot_at}
use Rattle.json_text.specs.JsonText.{text, member, object}
use Rattle.json_text.specs.Refusals.{refusal}

-- the texts of a row's slots, each by its type
abbrev pub texts : List DataType → List Slot → List (List ℕ)
texts (data_type ∷ types) (slot ∷ slots) = text data_type slot ∷ texts types slots
texts _ _ = []

-- a member for each name and text
abbrev pub members : List (List ℕ) → List (List ℕ) → List (List ℕ)
members (name ∷ names) (value ∷ values) = member name value ∷ members names values
members _ _ = []

-- the object of a row under these names, of these types
abbrev pub row_object : List (List ℕ) → List DataType → List Slot → List ℕ
row_object names types row = object (members names (texts types row))

-- the lines of a table of rows: each row's object, and a line feed
abbrev pub lines : List (List ℕ) → List DataType → List (List Slot) → List ℕ
lines names types table = flat_map (λ row. row_object names types row ++ codes "\n") table

-- the slots of columns at one index
abbrev pub row_at : List (List Slot) → ℕ → List Slot
row_at columns i = map (λ column. slot_at column i) columns

-- the table of n rows of columns from row i on
abbrev pub table_of : List (List Slot) → ℕ → ℕ → List (List Slot)
table_of columns i zero = []
table_of columns i (suc n) = row_at columns i ∷ table_of columns (suc i) n

-- how many rows a chunk has
abbrev pub row_count : List Array → ℕ
row_count [] = 0
row_count (array ∷ _) = length (array_slots array)

-- the objects of a chunk's rows, in order
abbrev pub objects : List (List ℕ) → List Array → List (List ℕ)
objects names arrays = map (row_object names (map array_type arrays)) (table_of (map array_slots arrays) 0 (row_count arrays))

-- the names of fields
abbrev pub names_of : List Field → List (List ℕ)
names_of = map (λ f. f.name)

-- the first of two, if it is there
abbrev pub first_of : Option Error → Option Error → Option Error
first_of (Some e) _ = Some e
first_of None next = next

-- why the first of the arrays that has no JSON text has none
abbrev pub first_refusal : List Array → Option Error
first_refusal [] = None
first_refusal (array ∷ arrays) = first_of (refusal (array_type array) (array_slots array)) (first_refusal arrays)

-- why a chunk has no rows in JSON under these fields
abbrev pub chunk_refusal : List Field → List Array → Option Error
chunk_refusal fields arrays = if length fields == length arrays then first_refusal arrays else Some (InvalidArgumentError Lengths)
