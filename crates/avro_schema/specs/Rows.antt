-- Rows of fields, one after another, some kept and some skipped (Avro 1.11, "Records": a record
-- is its fields' encodings in order).
use Rattle.std.specs.Prelude.{◌≡◌, ℕ, ◌+◌, List, [], ◌∷◌, Bool, true, false, map, sum_by, slice_index_or}
use Rattle.arrow_core.specs.declared.slot.Slot.{Slot}
use Rattle.arrow_core.specs.declared.slot.Slot.TheVariants as slot
use Rattle.avro_schema.specs.declared.schema.AvroField.{AvroField}
use Rattle.avro_schema.specs.Parts.{Grammar, Then, Measured, Many}
use Rattle.avro_schema.specs.Encodes.{Encodes}
use Rattle.avro_schema.specs.Skips.{Passed, nothing, both, Skips}

-- what the pieces of a row hold: the slots of the kept fields, how many bytes these have, and what was
-- passed of the other fields
pub record Pieces : Type 0 where
  pub slots : List Slot
  pub kept : ℕ
  pub passed : Passed

abbrev pub no_pieces : Pieces
no_pieces = record { slots = []; kept = 0; passed = nothing }

abbrev pub with_kept : Slot × ℕ → Pieces → Pieces
with_kept x more = record { slots = x.0 ∷ more.slots; kept = x.1 + more.kept; passed = more.passed }

abbrev pub with_skipped : Passed → Pieces → Pieces
with_skipped p more = record { slots = more.slots; kept = more.kept; passed = both p more.passed }

-- one piece per field in order, encoded where the projection keeps the field, else skipped
abbrev pub Row : List AvroField → List Bool → Grammar Pieces
Row [] [] bytes y = (bytes ≡ []) × (y ≡ no_pieces)
Row (f ∷ fs) (true ∷ keeps) bytes y = Then (Measured (Encodes f.schema)) (λ x back z. (more : Pieces) × (z ≡ with_kept x more) × Row fs keeps back more) bytes y
Row (f ∷ fs) (false ∷ keeps) bytes y = Then (Skips f.schema) (λ p back z. (more : Pieces) × (z ≡ with_skipped p more) × Row fs keeps back more) bytes y
Row _ _ bytes y = ⊥

-- the bytes are n rows, and the table is the list of their kept slots
pub record Rows (n : ℕ) (fields : List AvroField) (projection : List Bool) (bytes : List ℕ) (table : List (List Slot)) : Type 0 where
  pub pieces : List Pieces
  pub encoded : Many (Row fields projection) n bytes pieces
  pub told : table ≡ map (λ row. row.slots) pieces

-- the k-th kept field's slots, row by row
abbrev pub column : List (List Slot) → ℕ → List Slot
column table k = map (λ row. slice_index_or row k slot.Null) table

-- over all rows: the bytes of kept pieces, and the bytes of skipped pieces that must be looked at, and
-- those of items in array blocks that state their size
abbrev pub total_kept : List Pieces → ℕ
total_kept = sum_by (λ row. row.kept)

abbrev pub total_seen : List Pieces → ℕ
total_seen = sum_by (λ row. row.passed.seen)

abbrev pub total_hidden : List Pieces → ℕ
total_hidden = sum_by (λ row. row.passed.hidden)
