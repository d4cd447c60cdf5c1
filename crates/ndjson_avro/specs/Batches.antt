-- What is written of the rows of a source, batch after batch, and why the next batch isn't. Each error has its one cause, and
-- out of memory may come at any time.
use Rattle.std.specs.Prelude.{◌≡◌, ◌⊎◌, ℕ, ◌<◌, ◌≤◌, List, length, All, Option}
use Rattle.std.specs.Io.KnownBytes.{Appends, IsAtEnd, Keeps}
use Rattle.arrow_base.specs.Outside.{AppendsPrefix}
use Rattle.arrow_core.specs.declared.error.Error.{Error}
use Rattle.arrow_core.specs.declared.error.Error.TheVariants.{WriteFault}
use Rattle.arrow_core.specs.declared.slot.Slot.{Slot}
use Rattle.arrow_core.specs.declared.types.DataType.{DataType}
use Rattle.avro_container.specs.Canonical.{canonical_block, canonical_blocks}
use Rattle.avro_schema.specs.declared.schema.Schema.{Schema}
use Rattle.ndjson_read.specs.Reading.{State}
use Rattle.avro_container.specs.Changes.{Change, change_of, Failed}
use Rattle.ndjson_avro.specs.Rows.{all_rows, AreRefused, AreRows, rows_block, rows_blocks}
use Rattle.ndjson_avro.specs.Taken.{RanOut, RowsFail, TakesRows}

-- whole batches of n rows were taken and written, a block for each
pub record WritesBatches (row_type : DataType) (root : Schema) (marker : List ℕ) (n : ℕ) (old new : State) (held held_after : Option (List ℕ)) (batches : List (List Slot)) : Type 0 where
  pub texts : List (List ℕ)
  pub takes : TakesRows old new texts
  pub rows : AreRows row_type root texts (all_rows batches)
  pub full : All (λ batch. length batch ≡ n) batches
  pub written : Appends held held_after (canonical_blocks marker (rows_blocks root batches))

-- a batch of n rows was taken, or of fewer at the end of the source, and can't be written
pub record BatchRefused (row_type : DataType) (root : Schema) (n : ℕ) (old new : State) (e : Error) : Type 0 where
  pub texts : List (List ℕ)
  pub takes : TakesRows old new texts
  pub most : length texts ≤ n
  pub fewer : length texts < n → IsAtEnd new.left
  pub why : AreRefused row_type root texts e

-- a batch of n rows was taken, or of fewer at the end of the source, one at least, and the sink failed after a prefix of its
-- block
pub record BreaksOff (row_type : DataType) (root : Schema) (marker : List ℕ) (n : ℕ) (old new : State) (sink : Change) (e : Error) : Type 0 where
  pub is : e ≡ WriteFault
  pub texts : List (List ℕ)
  pub takes : TakesRows old new texts
  pub some : 0 < length texts
  pub most : length texts ≤ n
  pub fewer : length texts < n → IsAtEnd new.left
  pub slots : List Slot
  pub rows : AreRows row_type root texts slots
  pub prefix : AppendsPrefix sink.bytes sink.bytes_after (canonical_block marker (rows_block root slots))
  pub failed : Failed sink

-- why the next batch was not written; only a failing sink has taken any byte of its block
abbrev pub BatchFails : DataType → Schema → List ℕ → ℕ → State → State → Change → Error → Type 0
BatchFails row_type root marker n old new sink e =
    (Keeps sink.bytes sink.bytes_after × (RanOut old new e ⊎ (RowsFail n old new e ⊎ BatchRefused row_type root n old new e)))
    ⊎ BreaksOff row_type root marker n old new sink e

-- whole batches were written, and the next one was not
pub record StopsAtBatch (row_type : DataType) (root : Schema) (marker : List ℕ) (n : ℕ) (old new : State) (sink : Change) (e : Error) : Type 0 where
  pub between : State
  pub held : Option (List ℕ)
  pub batches : List (List Slot)
  pub before : WritesBatches row_type root marker n old between sink.bytes held batches
  pub fails : BatchFails row_type root marker n between new (change_of held sink.faults sink.bytes_after sink.faults_after) e
