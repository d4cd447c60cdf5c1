-- The columns of a table of rows, and their data types.
use Rattle.std.specs.Prelude.{◌≡◌, ℕ, List, length, map, Bool}
use Rattle.std.specs.List.{range_with_len}
use Rattle.arrow_core.specs.declared.slot.Slot.{Slot}
use Rattle.arrow_core.specs.declared.types.DataType.{DataType}
use Rattle.arrow_core.specs.declared.types.Field.{Field}
use Rattle.avro_schema.specs.declared.schema.AvroField.{AvroField}
use Rattle.avro_schema.specs.Rows.{Rows, column}
use Rattle.avro_schema.specs.ValidBlock.{kept}

-- n columns
abbrev pub columns : ℕ → List (List Slot) → List (List Slot)
columns n table = map (column table) (range_with_len 0 n)

-- the bytes are n rows, and these are their columns, one for each kept field
abbrev pub AreColumns : ℕ → List AvroField → List Bool → List ℕ → List (List Slot) → Type 0
AreColumns n fields projection bytes cs =
    (table : List (List Slot)) × Rows n fields projection bytes table × (length cs ≡ length (kept fields projection)) × (cs ≡ columns (length cs) table)

-- the data types of the kept fields
abbrev pub kept_types : List Field → List Bool → List DataType
kept_types fields projection = map (λ f. f.data_type) (kept fields projection)
