-- What a conversion of lines into a file does, and why it stops. Each error has its one cause, and out of memory may come
-- at any time.
use Rattle.std.specs.Prelude.{◌≡◌, ◌⊎◌, ℕ, ◌≤◌, List, length, IfSome, Option}
use Rattle.std.specs.Io.KnownBytes.{Appends, Consumes, IsAtEnd}
use Rattle.arrow_core.specs.declared.error.Error.{Error}
use Rattle.arrow_core.specs.declared.slot.Slot.{Slot}
use Rattle.arrow_core.specs.declared.types.DataType as types
use Rattle.arrow_core.specs.declared.types.Field.{Field}
use Rattle.avro_file.specs.File.{canonical_file, metadata_bytes}
use Rattle.avro_file.specs.Metadata.{WriteFails}
use Rattle.avro_schema.specs.declared.schema.Record.{Record}
use Rattle.avro_schema.specs.declared.schema.Schema as schema
use Rattle.ndjson_read.specs.Lines.{rows_of}
use Rattle.ndjson_read.specs.Reading.{state}
use Rattle.ndjson_avro.specs.Batches.{StopsAtBatch}
use Rattle.avro_container.specs.Changes.{Change, change_of}
use Rattle.ndjson_avro.specs.Rows.{all_rows, AreBatches, AreRows, rows_blocks}
use Rattle.ndjson_avro.specs.Target.{HasNoTarget, HasTarget}

-- All bytes of the source, no more than the limit, were taken. Their rows are the texts of objects, which are rows of these
-- fields, `count` of them. The sink got the canonical file of the fields' record and of these rows, n to a block. Of a source or
-- a sink whose bytes the contract knows, these are the bytes.
pub record Converts (fields : List Field) (name marker : List ℕ) (n limit : ℕ) (source sink : Change) (count : ℕ) : Type 0 where
  pub target : Record
  pub has : HasTarget fields name target
  pub bytes : List ℕ
  pub taken : Consumes source.bytes source.bytes_after bytes
  pub whole : IsAtEnd source.bytes_after
  pub within : length bytes ≤ limit
  pub texts : List (List ℕ)
  pub lines : IfSome source.bytes (λ _. texts ≡ rows_of bytes)
  pub batches : List (List Slot)
  pub rows : AreRows (types.Struct fields) (schema.Record target) texts (all_rows batches)
  pub cut : AreBatches n batches
  pub written : Appends sink.bytes sink.bytes_after (canonical_file target marker (rows_blocks (schema.Record target) batches))
  pub counted : count ≡ length texts

-- it was left as it was
abbrev pub IsUntouched : Change → Type 0
IsUntouched change = (change.bytes_after ≡ change.bytes) × (change.faults_after ≡ change.faults)

-- before anything was read or written: the rows of these fields can't be read or written
pub record NotBegun (fields : List Field) (source sink : Change) (e : Error) : Type 0 where
  pub source_as_it_was : IsUntouched source
  pub sink_as_it_was : IsUntouched sink
  pub why : HasNoTarget fields e

-- before anything was read: the header was not written
pub record HeaderNotWritten (fields : List Field) (name marker : List ℕ) (source sink : Change) (e : Error) : Type 0 where
  pub source_as_it_was : IsUntouched source
  pub target : Record
  pub has : HasTarget fields name target
  pub why : WriteFails sink.bytes sink.bytes_after sink.faults sink.faults_after (metadata_bytes target marker) e

-- the header was written; of the batches after it whole ones were, and the next one was not
pub record BatchNotWritten (fields : List Field) (name marker : List ℕ) (n limit : ℕ) (source sink : Change) (e : Error) : Type 0 where
  pub target : Record
  pub has : HasTarget fields name target
  pub held : Option (List ℕ)
  pub header : Appends sink.bytes held (metadata_bytes target marker)
  pub limit_after : ℕ
  pub lines_after : ℕ
  pub stops : StopsAtBatch (types.Struct fields) (schema.Record target) marker n (state source.bytes source.faults limit 0)
      (state source.bytes_after source.faults_after limit_after lines_after) (change_of held sink.faults sink.bytes_after sink.faults_after) e

-- why a conversion stops
abbrev pub ConversionFails : List Field → List ℕ → List ℕ → ℕ → ℕ → Change → Change → Error → Type 0
ConversionFails fields name marker n limit source sink e =
    NotBegun fields source sink e ⊎ (HeaderNotWritten fields name marker source sink e ⊎ BatchNotWritten fields name marker n limit source sink e)
