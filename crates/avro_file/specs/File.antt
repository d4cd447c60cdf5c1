-- Avro object container files (Avro 1.11, "Object Container Files") by the schema that their rows are of.
use Rattle.std.specs.Prelude.{ℕ, List}
use Rattle.avro_schema.specs.declared.schema.Schema.{Schema}
use Rattle.avro_schema.specs.declared.schema.Schema as schema
use Rattle.avro_schema.specs.declared.schema.Record.{Record}
use Rattle.avro_container.specs.Canonical as container
use Rattle.avro_container.specs.File.{FileBlock, FileOf}
use Rattle.avro_file.specs.Reading.{IsSchemaText}
use Rattle.avro_file.specs.Writing.{schema_text_of}

-- the text of a schema stands for this record
pub record StandsFor (text : List ℕ) (root : Record) : Type 0 where
  pub means : IsSchemaText text (schema.Record root)

-- the bytes are a file of this root, sync marker and blocks
abbrev pub AvroFile : List ℕ → Record → List ℕ → List FileBlock → Type 0
AvroFile = FileOf StandsFor

-- the canonical header
abbrev pub metadata_bytes : Record → List ℕ → List ℕ
metadata_bytes root = container.canonical_header (schema_text_of (schema.Record root))

-- the one file with the canonical header and each number in its shortest encoding
abbrev pub canonical_file : Record → List ℕ → List FileBlock → List ℕ
canonical_file root = container.canonical_file (schema_text_of (schema.Record root))
