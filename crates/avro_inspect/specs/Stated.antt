-- The schema that the header of a file states (Avro 1.11, "Object Container Files").
use Rattle.std.specs.Prelude.{◌≡◌, ℕ, List}
use Rattle.avro_schema.specs.declared.schema.Schema as schema
use Rattle.avro_schema.specs.declared.schema.Record.{Record}
use Rattle.avro_container.specs.ReadHeader.{Change}
use Rattle.avro_file.specs.Writing.{schema_text_of}
use Rattle.avro_file.specs.Metadata.{ReadsMetadata}

-- a header was taken, and nothing past it, and the text is the one that is written for its record
pub record StatesSchema (c : Change) (text : List ℕ) : Type 0 where
  pub root : Record
  pub marker : List ℕ
  pub count : ℕ
  pub reads : ReadsMetadata c root marker count
  pub written : text ≡ schema_text_of (schema.Record root)
