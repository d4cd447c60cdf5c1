-- What a file means at most, which file stands for given blocks, and what the answers of the metadata's reader say of
-- the bytes of a source that tells them.
use Rattle.std.specs.Prelude.{◌≡◌, ℕ, ◌^◌, ◌<◌, ◌≤◌, List, length, ◌++◌, Some}
use Rattle.arrow_base.specs.Outside.{RoseOrFull}
use Rattle.arrow_core.specs.declared.error.Error.{Error}
use Rattle.arrow_core.specs.declared.error.Error.TheVariants.{OutOfMemory}
use Rattle.avro_schema.specs.declared.schema.Schema as schema
use Rattle.avro_schema.specs.declared.schema.Record.{Record}
use Rattle.avro_container.specs.File.{FileBlock, Entry, Header, header_parts, schema_entry, codec_entry, IsPlain}
use Rattle.avro_container.specs.Laws.{OneFile, AllSmall}
use Rattle.avro_container.specs.ReadHeader.{Change}
use Rattle.avro_file.specs.Writable.{IsWritable}
use Rattle.avro_file.specs.Writing.{schema_text_of}
use Rattle.avro_file.specs.File.{StandsFor, AvroFile, canonical_file}
use Rattle.avro_file.specs.Metadata.{ReadsMetadata, MetadataFails}

-- bytes are a file of one root, one marker and one list of blocks at most
abbrev pub OneAvroFile : Type 0
OneAvroFile = OneFile StandsFor

-- the canonical file of a writable root, of sixteen bytes and of blocks is a file of these
abbrev pub CanonicalIsAvroFile : Type 0
CanonicalIsAvroFile =
    (root : Record) (marker : List ℕ) (blocks : List FileBlock) → IsWritable (schema.Record root) → length (schema_text_of (schema.Record root)) < 2 ^ 63 → length marker ≡ 16 → AllSmall blocks → AvroFile (canonical_file root marker blocks) root marker blocks

-- the bytes are a header that names no codec, with this root and sync marker
pub record IsMetadata (bytes : List ℕ) (root : Record) (marker : List ℕ) : Type 0 where
  pub entries : List Entry
  pub head : Header bytes (header_parts entries marker)
  pub text : List ℕ
  pub schema : schema_entry entries ≡ Some text
  pub means : StandsFor text root
  pub codec : IsPlain (codec_entry entries)

-- where the bytes begin with metadata, within the limit, and no read fails, no error but out of memory is answered
abbrev pub MetadataIsRead : Type 0
MetadataIsRead =
    (prefix rest marker : List ℕ) (root : Record) (c : Change) → c.left ≡ Some (prefix ++ rest) → IsMetadata prefix root marker → length prefix ≤ c.limit → (RoseOrFull c.faults c.faults_after → ⊥) → (e : Error) → MetadataFails c e → e ≡ OutOfMemory

-- where the bytes begin with metadata, these are what is answered, and what follows is left
abbrev pub MetadataIsRight : Type 0
MetadataIsRight =
    (prefix rest marker answered_marker : List ℕ) (root answered : Record) (count : ℕ) (c : Change) → c.left ≡ Some (prefix ++ rest) → IsMetadata prefix root marker → ReadsMetadata c answered answered_marker count → (answered ≡ root) × (answered_marker ≡ marker) × (count ≡ length prefix) × (c.left_after ≡ Some rest)
