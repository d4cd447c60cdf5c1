-- A block whose bytes break off in a skipped field, at an array block that states a size below 0
-- (Avro 1.11, "Arrays" and "Records").
use Rattle.std.specs.Prelude.{◌≡◌, ℕ, ◌<◌, ◌≤◌, List, ◌∷◌, ◌++◌, length, Bool, true, false, ◌⊎◌}
use Rattle.arrow_core.specs.declared.slot.Slot.{Slot}
use Rattle.avro_schema.specs.declared.schema.AvroField.{AvroField}
use Rattle.avro_schema.specs.Parts.{Many}
use Rattle.avro_schema.specs.Encodes.{Encodes}
use Rattle.avro_schema.specs.Skips.{Passed, Skips}
use Rattle.avro_schema.specs.Broken.{Broken}
use Rattle.avro_schema.specs.Rows.{Pieces, Row}

-- whole pieces of a row, and then a skipped field whose bytes are broken
abbrev pub BrokenRow : List AvroField → List Bool → List ℕ → Type 0
BrokenRow (f ∷ fs) (true ∷ keeps) bytes = (prefix back : List ℕ) × (bytes ≡ prefix ++ back) × (x : Slot) × Encodes f.schema prefix x × BrokenRow fs keeps back
BrokenRow (f ∷ fs) (false ∷ keeps) bytes = Broken f.schema bytes ⊎ ((prefix back : List ℕ) × (bytes ≡ prefix ++ back) × (p : Passed) × Skips f.schema prefix p × BrokenRow fs keeps back)
BrokenRow _ _ bytes = ⊥

-- fewer than n whole rows, and then a row that is broken
pub record NegativeSize (n : ℕ) (fields : List AvroField) (projection : List Bool) (bytes : List ℕ) : Type 0 where
  pub enough : n ≤ length bytes
  pub whole : ℕ
  pub fewer : whole < n
  pub prefix : List ℕ
  pub back : List ℕ
  pub joined : bytes ≡ prefix ++ back
  pub pieces : List Pieces
  pub rows : Many (Row fields projection) whole prefix pieces
  pub broken : BrokenRow fields projection back
