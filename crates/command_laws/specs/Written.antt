-- Lines that were written as a file, by `avro`, and shown again, by `ndjson`.
use Rattle.std.specs.Prelude.{◌≡◌, ℕ, ◌+◌, ◌^◌, ◌<◌, ◌≤◌, List, [], length, map, Some}
use Rattle.std.specs.Io.KnownBytes.{Appends}
use Rattle.std.specs.Str.{IsUtf8}
use Rattle.arrow_core.specs.declared.error.Error.{Error}
use Rattle.arrow_core.specs.declared.slot.Slot.{Slot}
use Rattle.arrow_core.specs.declared.types.Field.{Field}
use Rattle.avro_container.specs.Changes.{CameFromOutside, Change}
use Rattle.avro_container.specs.File.{FileBlock}
use Rattle.avro_encode.specs.Plain.{parts_of}
use Rattle.avro_schema.specs.declared.schema.Schema as schema
use Rattle.cli_words.specs.declared.command.AvroWords.{AvroWords}
use Rattle.ndjson_avro.specs.Rows.{all_rows, rows_blocks}
use Rattle.arrow_convert.specs.Brackets.{NamesAreUtf8, brackets_of}
use Rattle.arrow_convert.specs.ReadAgain.{AreShort, Got, HaveLines, lines_of}
use Rattle.avrocat_commands.specs.Avro.{AvroDone}
use Rattle.avrocat_commands.specs.Input.{Tells}
use Rattle.avrocat_commands.specs.Ndjson.{NdjsonDone, NdjsonFails}

-- `avro` was done with these words: these are the bytes that the sink got
pub record IsWritten (avro : AvroWords) (bytes : List ℕ) : Type 0 where
  pub source : Change
  pub sink : Change
  pub done : AvroDone avro source sink
  pub got : Got sink bytes

-- the columns of the fields
abbrev pub columns_of : {avro : AvroWords} {bytes : List ℕ} → IsWritten avro bytes → List Field
columns_of w = w.done.0

-- the rows that the lines mean
abbrev pub written_rows : {avro : AvroWords} {bytes : List ℕ} → IsWritten avro bytes → List (List Slot)
written_rows w = map parts_of (all_rows w.done.3.batches)

abbrev pub written_blocks : {avro : AvroWords} {bytes : List ℕ} → IsWritten avro bytes → List FileBlock
written_blocks w = rows_blocks (schema.Record w.done.3.target) w.done.3.batches

-- The file can be read: all names are UTF-8, as those of any `&str` or `Text` are, no more than 128 brackets are open at once in
-- the text of its schema, the sync marker has sixteen bytes, and a number of 64 bits counts the file's.
pub record CanBeRead {avro : AvroWords} {bytes : List ℕ} (w : IsWritten avro bytes) : Type 0 where
  pub named : IsUtf8 avro.name
  pub names : NamesAreUtf8 (columns_of w)
  pub shallow : 3 + brackets_of (columns_of w) ≤ 128
  pub sixteen : length avro.marker ≡ 16
  pub few : length bytes < 2 ^ 63

-- where `ndjson` of these bytes is done, the sink got the lines of the same rows
abbrev pub LinesAreShown : Type 0
LinesAreShown =
    (avro : AvroWords) (bytes : List ℕ) (w : IsWritten avro bytes) → CanBeRead w → (source sink : Change) → source.bytes ≡ Some bytes → NdjsonDone [] source sink
    → Appends sink.bytes sink.bytes_after (lines_of (columns_of w) (written_rows w))

-- and where these rows have lines, it is: no error is answered but those from outside
abbrev pub LinesDoNotFail : Type 0
LinesDoNotFail =
    (avro : AvroWords) (bytes : List ℕ) (w : IsWritten avro bytes) → CanBeRead w → HaveLines (columns_of w) (written_rows w) → AreShort (written_blocks w)
    → (source sink : Change) (e : Error) → Tells source bytes → NdjsonFails [] source sink e → CameFromOutside sink e
