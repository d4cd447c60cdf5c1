-- What the reader and the writer of a file's metadata answer.
use Rattle.std.specs.Prelude.{◌≡◌, ℕ, List, Option, ◌⊎◌}
use Rattle.std.specs.Io.KnownBytes.{Keeps}
use Rattle.arrow_base.specs.Outside.{RoseOrFull, AppendsPrefix}
use Rattle.arrow_core.specs.declared.error.Error.{Error}
use Rattle.arrow_core.specs.declared.error.Error.TheVariants.{NotYetImplemented, ExternalFormat, LimitExceeded, WriteFault, OutOfMemory}
use Rattle.arrow_core.specs.declared.error.Reason.TheVariants as reason
use Rattle.avro_schema.specs.declared.schema.Schema.{Schema}
use Rattle.avro_schema.specs.declared.schema.Schema as schema
use Rattle.avro_schema.specs.declared.schema.Record.{Record}
use Rattle.avro_file.specs.declared.fault.SchemaTextFault.TheVariants as fault
use Rattle.avro_file.specs.Reading.{IsSchemaText, SchemaTextRefused}
use Rattle.avro_container.specs.ReadHeader.{Change, ReadsHeader, HeaderFails}
use Rattle.avro_file.specs.File.{StandsFor}

-- a header was taken, so many bytes, and nothing more; its schema text stands for the root
pub record ReadsMetadata (c : Change) (root : Record) (marker : List ℕ) (count : ℕ) : Type 0 where
  pub text : List ℕ
  pub header : ReadsHeader c text marker count
  pub means : StandsFor text root

abbrev pub IsRecord : Schema → Type 0
IsRecord (schema.Record r) = Unit {0}
IsRecord _ = ⊥

-- the text stands for a schema that is no record
pub record NoRecord (text : List ℕ) : Type 0 where
  pub other : Schema
  pub means : IsSchemaText text other
  pub differs : IsRecord other → ⊥

-- why the text stands for no root, by the error that says so
abbrev pub RootFails : List ℕ → Error → Type 0
RootFails text (ExternalFormat reason.SchemaText) = SchemaTextRefused text fault.Form
RootFails text (NotYetImplemented reason.TypeReference) = SchemaTextRefused text fault.Reference
RootFails text LimitExceeded = SchemaTextRefused text fault.Depth
RootFails text (NotYetImplemented reason.RootNotRecord) = NoRecord text
RootFails text OutOfMemory = Unit {0}
RootFails text _ = ⊥

-- a whole header was taken that names no codec but `null`, and its schema text stands for no root
pub record NoRoot (c : Change) (e : Error) : Type 0 where
  pub text : List ℕ
  pub marker : List ℕ
  pub count : ℕ
  pub header : ReadsHeader c text marker count
  pub fails : RootFails text e

-- no metadata was read, for the reason that the error says
abbrev pub MetadataFails : Change → Error → Type 0
MetadataFails c e = HeaderFails c e ⊎ NoRoot c e

-- the metadata wasn't written: a write failed, and the sink took a prefix of it; or there was no memory, and it
-- took nothing
abbrev pub WriteFails : Option (List ℕ) → Option (List ℕ) → ℕ → ℕ → List ℕ → Error → Type 0
WriteFails held held_after faults faults_after bytes WriteFault = AppendsPrefix held held_after bytes × RoseOrFull faults faults_after
WriteFails held held_after faults faults_after bytes OutOfMemory = Keeps held held_after × (faults_after ≡ faults)
WriteFails held held_after faults faults_after bytes _ = ⊥
