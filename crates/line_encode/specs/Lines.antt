-- Lines as rows of a block: what `encode_lines` has appended where it gives nothing up.
use Rattle.std.specs.Prelude.{◌≡◌, ℕ, true, false, List, ◌++◌, flat_map, All}
use Rattle.std.specs.List.{AllZip}
use Rattle.arrow_core.specs.declared.slot.Slot.{Slot}
use Rattle.arrow_core.specs.declared.types.DataType.{Struct}
use Rattle.arrow_core.specs.declared.types.Field.{Field}
use Rattle.avro_encode.specs.Pairs.{Pairs}
use Rattle.avro_encode.specs.Plain.{plain}
use Rattle.avro_schema.specs.declared.schema.Record.{Record as TheRecord}
use Rattle.avro_schema.specs.declared.schema.Schema.{Record}
use Rattle.json_flat.specs.Columns.{AreSlotsOf}
use Rattle.json_flat.specs.Names.{names_twice}
use Rattle.json_flat.specs.Reading.{has_reading, reading}
use Rattle.json_lend.specs.Fields.{IsObject}
use Rattle.json_tree.specs.Meaning.{IsJson}
use Rattle.json_tree.specs.Tree.{Json}

-- The Struct of the fields has a reading, and names no field twice at any depth. Each line is an object (RFC 8259), which means a
-- slot under this type, and that slot has a canonical encoding under the record (Avro 1.11, "Binary Encoding"). These encodings were
-- appended, one after another.
pub record EncodesLines (fields : List Field) (root : TheRecord) (lines : List (List ℕ)) (old new : List ℕ) : Type 0 where
  pub readable : has_reading (Struct fields) ≡ true
  pub distinct : names_twice (Struct fields) ≡ false
  pub values : List Json
  pub slots : List Slot
  pub have : AllZip IsJson values lines
  pub objects : All IsObject values
  pub meant : AreSlotsOf (reading (Struct fields)) values slots
  pub paired : All (Pairs (Record root)) slots
  pub encoded : new ≡ old ++ flat_map (plain (Record root)) slots
