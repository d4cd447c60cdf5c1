-- Reading rows from left to right, and a block's bytes, which are its rows and nothing else (Avro 1.11,
-- "Object Container Files").
use Rattle.std.specs.Prelude.{ℕ, zero, suc, ◌+◌, ◌-◌, List, [], ◌∷◌, ◌++◌, length, Bool, true, false, Result, Ok, Err, nat_lt, ◌==◌, if◌then◌else◌}
use Rattle.arrow_core.specs.declared.slot.Slot.{Slot}
use Rattle.avro_schema.specs.declared.schema.AvroField.{AvroField}
use Rattle.avro_schema.specs.Skips.{Passed, both}
use Rattle.avro_schema.specs.Rows.{Pieces, no_pieces}
use Rattle.avro_reference.specs.Read.{read}
use Rattle.avro_reference.specs.Skip.{◌>>=◌, Fault, Bad, Parser, or_bad, skip}

-- one more kept slot, and how many bytes it has
abbrev pub add_kept : Pieces → Slot × ℕ → Pieces
add_kept old x = record { slots = old.slots ++ x.0 ∷ []; kept = old.kept + x.1; passed = old.passed }

abbrev pub add_skipped : Pieces → Passed → Pieces
add_skipped old p = record { slots = old.slots; kept = old.kept; passed = both old.passed p }

-- the pieces of the fields in order, after the older ones
unfoldable pub row_after : Pieces → List AvroField → List Bool → Parser Pieces
row_after old [] [] bytes = Ok (old, bytes)
row_after old (f ∷ fs) (true ∷ keeps) bytes = do
  x ← or_bad (read f.schema bytes)
  row_after (add_kept old (x.0, length bytes - length x.1)) fs keeps x.1
row_after old (f ∷ fs) (false ∷ keeps) bytes = do
  p ← skip f.schema bytes
  row_after (add_skipped old p.0) fs keeps p.1
row_after old _ _ bytes = Err Bad

abbrev pub row : List AvroField → List Bool → Parser Pieces
row fields projection bytes = row_after no_pieces fields projection bytes

-- n rows, each at the end of the older ones
unfoldable pub rows_after : List Pieces → ℕ → List AvroField → List Bool → Parser (List Pieces)
rows_after old zero fields projection bytes = Ok (old, bytes)
rows_after old (suc n) fields projection bytes = do
  y ← row fields projection bytes
  rows_after (old ++ y.0 ∷ []) n fields projection y.1

abbrev pub rows : ℕ → List AvroField → List Bool → Parser (List Pieces)
rows n fields projection bytes = rows_after [] n fields projection bytes

-- a block of n rows: none of them is empty, and nothing is after the last one
unfoldable pub block : ℕ → List AvroField → List Bool → List ℕ → Result (List Pieces) Fault
block n fields projection bytes =
    if nat_lt (length bytes) n then Err Bad else (do
      ys ← rows n fields projection bytes
      if length ys.1 == 0 then Ok ys.0 else Err Bad)
