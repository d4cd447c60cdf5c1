-- What is answered of a source whose bytes the contract knows, and what bytes have at most.
use Rattle.std.specs.Prelude.{◌≡◌, ℕ, List, ◌++◌, Some}
use Rattle.arrow_core.specs.declared.error.Error.{Error}
use Rattle.arrow_core.specs.declared.error.Error.TheVariants.{OutOfMemory}
use Rattle.avro_schema.specs.declared.schema.Schema as schema
use Rattle.avro_schema.specs.declared.schema.Record.{Record}
use Rattle.avro_container.specs.ReadHeader.{Change as HeaderChange}
use Rattle.avro_container.specs.File.{FileBlock}
use Rattle.avro_file.specs.Writing.{schema_text_of}
use Rattle.avro_container.specs.Changes.{Change, IsTold}
use Rattle.avro_file.specs.File.{AvroFile}
use Rattle.avro_file.specs.Laws.{IsMetadata}
use Rattle.avro_inspect.specs.Counts.{HasCounts, CountingFails}
use Rattle.avro_inspect.specs.Stated.{StatesSchema}
use Rattle.avro_inspect.specs.declared.count.FileCounts.{FileCounts}

-- the bytes are a file
abbrev pub IsFile : List ℕ → Type 0
IsFile bytes = (root : Record) × (marker : List ℕ) × (blocks : List FileBlock) × AvroFile bytes root marker blocks

-- the rows and blocks of a file within the limit are counted, memory allowing
abbrev pub FilesAreCounted : Type 0
FilesAreCounted = (bytes : List ℕ) (limit : ℕ) (source : Change) (e : Error) → IsTold source limit bytes → IsFile bytes → CountingFails limit source e → e ≡ OutOfMemory

-- where the bytes begin with a header, the schema that is answered is that of its record, and what follows is left
abbrev pub SchemaIsRight : Type 0
SchemaIsRight =
    (header rest marker text : List ℕ) (root : Record) (c : HeaderChange) → c.left ≡ Some (header ++ rest) → IsMetadata header root marker → StatesSchema c text → (text ≡ schema_text_of (schema.Record root)) × (c.left_after ≡ Some rest)

-- bytes have one number of rows and one of blocks at most
abbrev pub OneCount : Type 0
OneCount = (bytes : List ℕ) (counts other : FileCounts) → HasCounts bytes counts → HasCounts bytes other → counts ≡ other
