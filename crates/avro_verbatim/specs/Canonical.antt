-- Rows in their canonical encoding (Avro 1.11, "Binary Encoding"): each number in its shortest encoding, each array in
-- one block with a positive count.
use Rattle.std.specs.Prelude.{◌≡◌, ℕ, List, length, flat_map}
use Rattle.std.specs.List.{AllByRecursion}
use Rattle.arrow_core.specs.declared.slot.Slot.{Slot}
use Rattle.avro_schema.specs.declared.schema.AvroField.{AvroField}
use Rattle.avro_encode.specs.Listed.{PairsFieldsOf, plain_fields_of}

-- The bytes are the canonical encodings of the rows of a table, one after another, each slot of which has one under its
-- field.
pub record AreCanonicalRows (n : ℕ) (fields : List AvroField) (bytes : List ℕ) : Type 0 where
  pub table : List (List Slot)
  pub counted : length table ≡ n
  pub encoded : AllByRecursion (PairsFieldsOf fields) table
  pub is : bytes ≡ flat_map (plain_fields_of fields) table
