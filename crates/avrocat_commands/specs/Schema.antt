-- The schema of a file, as `schema` asks for it.
use Rattle.std.specs.Prelude.{◌⊎◌, ℕ, List, ◌++◌, codes}
use Rattle.std.specs.Io.KnownBytes.{Appends, Keeps}
use Rattle.arrow_core.specs.declared.error.Error.{Error}
use Rattle.avro_container.specs.Changes.{Change, header_of}
use Rattle.avro_file.specs.Metadata.{MetadataFails}
use Rattle.avro_inspect.specs.Stated.{StatesSchema}
use Rattle.avrocat_commands.specs.Help.{BreaksOff}
use Rattle.avrocat_commands.specs.Input.{byte_limit}

-- a file's header was taken, and nothing past it, and this is the text of its schema
abbrev pub ReadsSchema : Change → List ℕ → Type 0
ReadsSchema source text = StatesSchema (header_of byte_limit source source.bytes_after source.faults_after) text

-- and the sink got it, and a line feed
abbrev pub SchemaDone : Change → Change → Type 0
SchemaDone source sink = (text : List ℕ) × ReadsSchema source text × Appends sink.bytes sink.bytes_after (text ++ codes "\n")

-- why it didn't, or not all of it
abbrev pub SchemaFails : Change → Change → Error → Type 0
SchemaFails source sink e =
    (Keeps sink.bytes sink.bytes_after × MetadataFails (header_of byte_limit source source.bytes_after source.faults_after) e)
    ⊎ ((text : List ℕ) × ReadsSchema source text × BreaksOff (text ++ codes "\n") sink e)
