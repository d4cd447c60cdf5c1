-- How many rows and blocks a file has (Avro 1.11, "Object Container Files"), and why they aren't counted.
use Rattle.std.specs.Prelude.{ℕ, ◌-◌, ◌≤◌, List, length, Option, None, ◌⊎◌}
use Rattle.std.specs.Io.KnownBytes.{Consumes, IsAtEnd}
use Rattle.arrow_core.specs.declared.error.Error.{Error}
use Rattle.avro_schema.specs.declared.schema.Record.{Record}
use Rattle.avro_container.specs.File.{FileBlock}
use Rattle.avro_container.specs.Taking.{state}
use Rattle.avro_container.specs.Changes.{Change, header_of}
use Rattle.avro_file.specs.File.{AvroFile}
use Rattle.avro_file.specs.Metadata.{ReadsMetadata, MetadataFails}
use Rattle.avro_inspect.specs.Taken.{AreCounts, StopsCounting}
use Rattle.avro_inspect.specs.declared.count.FileCounts.{FileCounts}

-- the bytes are a file whose blocks state so many rows, and which has so many blocks
pub record HasCounts (bytes : List ℕ) (counts : FileCounts) : Type 0 where
  pub root : Record
  pub marker : List ℕ
  pub blocks : List FileBlock
  pub is_file : AvroFile bytes root marker blocks
  pub are : AreCounts counts blocks

-- All bytes of the source, no more than the limit, are a file of so many rows and blocks. Of a source that tells its
-- bytes, these are the bytes.
pub record CountsFile (limit : ℕ) (source : Change) (counts : FileCounts) : Type 0 where
  pub bytes : List ℕ
  pub taken : Consumes source.bytes source.bytes_after bytes
  pub whole : IsAtEnd source.bytes_after
  pub within : length bytes ≤ limit
  pub has : HasCounts bytes counts

-- a header was read, and blocks after it, and there is no next one
pub record NoNextBlock (limit : ℕ) (source : Change) (e : Error) : Type 0 where
  pub root : Record
  pub marker : List ℕ
  pub count : ℕ
  pub left : Option (List ℕ)
  pub faults : ℕ
  pub never_falls : source.faults ≤ faults
  pub reads : ReadsMetadata (header_of limit source left faults) root marker count
  pub limit_after : ℕ
  pub stops : StopsCounting marker (state left faults (limit - count) None) (state source.bytes_after source.faults_after limit_after None) e

-- why rows and blocks aren't counted
abbrev pub CountingFails : ℕ → Change → Error → Type 0
CountingFails limit source e = MetadataFails (header_of limit source source.bytes_after source.faults_after) e ⊎ NoNextBlock limit source e
