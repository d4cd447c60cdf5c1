-- What is asked of a cursor: how many bytes it shows, and how often it is called.
use Rattle.std.specs.Prelude.{ℕ, ◌+◌, ◌-◌, ◌*◌, ◌≤◌, List, length, Bool}
use Rattle.arrow_core.specs.declared.slot.Slot.{Slot}
use Rattle.avro_schema.specs.declared.schema.AvroField.{AvroField}
use Rattle.avro_schema.specs.Rows.{Rows, total_kept, total_seen, total_hidden}

-- In whichever pieces the bytes are n rows, no more bytes were shown than those of the kept ones and
-- those of the others that must be looked at.
abbrev pub ShowsAtMost : ℕ → List AvroField → List Bool → List ℕ → ℕ → ℕ → Type 0
ShowsAtMost n fields projection bytes old new =
    (table : List (List Slot)) (r : Rows n fields projection bytes table) → new ≤ old + (total_kept r.pieces + total_seen r.pieces)

-- In whichever pieces the bytes are n rows, two calls were made at most for each byte that is not of
-- items in array blocks that state their size.
abbrev pub CallsAtMost : ℕ → List AvroField → List Bool → List ℕ → ℕ → ℕ → Type 0
CallsAtMost n fields projection bytes old new =
    (table : List (List Slot)) (r : Rows n fields projection bytes table) → new ≤ old + 2 * (length bytes - total_hidden r.pieces)
