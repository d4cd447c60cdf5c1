-- A block of a file that holds the rows of columns.
use Rattle.std.specs.Prelude.{◌≡◌, ℕ, List}
use Rattle.arrow_core.specs.declared.slot.Slot.{Slot}
use Rattle.avro_schema.specs.declared.schema.AvroField.{AvroField}
use Rattle.avro_container.specs.Canonical.{canonical_block}
use Rattle.avro_container.specs.File.{the_block}
use Rattle.avro_schema.specs.Rows.{Rows}
use Rattle.avro_write.specs.Laws.{ArePaired, all_kept, table_of}

-- the bytes are one block (Avro 1.11, "Object Container Files"), whose rows by the grammar are the table of the
-- columns, one for each field and all of them as long as there are rows
pub record IsBlockOf (fields : List AvroField) (marker : List ℕ) (columns : List (List Slot)) (block : List ℕ) : Type 0 where
  pub rows : ℕ
  pub paired : ArePaired rows fields columns
  pub bytes : List ℕ
  pub are_rows : Rows rows fields (all_kept fields) bytes (table_of rows columns)
  pub is_block : block ≡ canonical_block marker (the_block rows bytes)
