-- What a second call says of a file that a first one wrote.
use Rattle.std.specs.Prelude.{◌≡◌, ℕ, ◌+◌, ◌^◌, ◌<◌, ◌≤◌, true, List, ◌++◌, length, map, All, Some, None}
use Rattle.std.specs.List.{AllByRecursion, list_all}
use Rattle.std.specs.Io.KnownBytes.{Appends}
use Rattle.std.specs.Str.{IsUtf8}
use Rattle.arrow_core.specs.declared.error.Error.{Error}
use Rattle.arrow_core.specs.declared.slot.Slot.{Slot}
use Rattle.arrow_core.specs.declared.types.Field.{Field}
use Rattle.avro_schema.specs.declared.schema.Schema as schema
use Rattle.avro_schema.specs.declared.schema.Record.{Record, out-Record}
use Rattle.avro_schema.specs.ValidBlock.{small_limit}
use Rattle.avro_container.specs.File.{FileBlock}
use Rattle.avro_container.specs.Changes.{Change, CameFromOutside, IsTold}
use Rattle.avro_file.specs.Writable.{IsWritable}
use Rattle.avro_file.specs.Writing.{schema_text_of}
use Rattle.avro_file.specs.File.{AvroFile}
use Rattle.avro_encode.specs.Plain.{parts_of}
use Rattle.json_tree.specs.Meaning.{HoldsTooMany}
use Rattle.json_text.specs.Refusals.{all_in_range, has_text}
use Rattle.json_write.specs.Rows.{lines, names_of}
use Rattle.avro_ndjson.specs.Refusals as to_lines
use Rattle.ndjson_avro.specs.Conversion as to_file
use Rattle.ndjson_avro.specs.Rows.{all_rows, rows_blocks}
use Rattle.ndjson_avro.specs.Target.{HasTarget}
use Rattle.avro_canonical.specs.Rewritten.{Rewrites, RewritingFails, table_blocks}
use Rattle.arrow_convert.specs.Brackets.{NamesAreUtf8, brackets_of}

-- the contract knows the sink's bytes, and got these
pub record Got (sink : Change) (bytes : List ℕ) : Type 0 where
  pub before : List ℕ
  pub told : sink.bytes ≡ Some before
  pub after : sink.bytes_after ≡ Some (before ++ bytes)

-- A file of this record can be read: the record's text stands for it, the sync marker has sixteen bytes (Avro 1.11,
-- "Object Container Files"), and a number of 64 bits counts the bytes of the file.
pub record CanBeRead (target : Record) (marker bytes : List ℕ) : Type 0 where
  pub writable : IsWritable (schema.Record target)
  pub sixteen : length marker ≡ 16
  pub few : length bytes < 2 ^ 63

-- offsets of 32 bits count the bytes of each block
abbrev pub AreShort : List FileBlock → Type 0
AreShort = AllByRecursion (λ b. length b.bytes ≤ small_limit)

-- ---- lines, a file, lines

-- A file that can be read was written of lines: these are its bytes, and its rows, so many.
pub record IsFileOfLines (fields : List Field) (bytes : List ℕ) (rows : List (List Slot)) (count : ℕ) : Type 0 where
  pub name : List ℕ
  pub marker : List ℕ
  pub rows_per_block : ℕ
  pub limit : ℕ
  pub source : Change
  pub sink : Change
  pub converts : to_file.Converts fields name marker rows_per_block limit source sink count
  pub got : Got sink bytes
  pub can_be_read : CanBeRead converts.target marker bytes
  pub rows_are : rows ≡ map parts_of (all_rows converts.batches)

-- its blocks: each has the rows of a batch
abbrev pub batch_blocks : {fields : List Field} {bytes : List ℕ} {rows : List (List Slot)} {count : ℕ} → IsFileOfLines fields bytes rows count → List FileBlock
batch_blocks f = rows_blocks (schema.Record f.converts.target) f.converts.batches

-- the rows have lines: each type has a JSON text, and each date and timestamp is in a year from 0 to 9999
pub record HaveLines (fields : List Field) (rows : List (List Slot)) : Type 0 where
  pub texts : All (λ f. has_text f.data_type ≡ true) fields
  pub in_range : list_all (all_in_range fields) rows ≡ true

-- the lines of rows of these fields
abbrev pub lines_of : List Field → List (List Slot) → List ℕ
lines_of fields = lines (names_of fields) (map (λ f. f.data_type) fields)

-- the record of lines can be read back where its text is UTF-8, as it is where the names are, and nests at most 128 deep
abbrev pub RecordsAreWritable : Type 0
RecordsAreWritable =
    (fields : List Field) (name : List ℕ) (target : Record) → HasTarget fields name target
    → IsUtf8 (schema_text_of (schema.Record target)) → (HoldsTooMany (schema_text_of (schema.Record target)) → ⊥)
    → IsWritable (schema.Record target)

-- that is so where the name and those of the fields, at every depth, are UTF-8, as that of any `&str` or `Text` is, and the
-- schemas of the columns have at most 125 brackets, within the three of the record, of its fields and of each of these
abbrev pub ShallowRecordsAreWritable : Type 0
ShallowRecordsAreWritable =
    (fields : List Field) (name : List ℕ) (target : Record) → HasTarget fields name target
    → IsUtf8 name → NamesAreUtf8 fields → 3 + brackets_of fields ≤ 128
    → IsWritable (schema.Record target)

-- such a file is an Avro file
abbrev pub LinesAreFile : Type 0
LinesAreFile =
    (fields : List Field) (bytes : List ℕ) (rows : List (List Slot)) (count : ℕ) (f : IsFileOfLines fields bytes rows count)
    → AvroFile bytes f.converts.target f.marker (batch_blocks f)

-- where it is converted into lines, all fields kept, these are the lines of the same rows
abbrev pub LinesComeBack : Type 0
LinesComeBack =
    (fields : List Field) (bytes : List ℕ) (rows : List (List Slot)) (count also limit : ℕ) (source sink : Change)
    → IsFileOfLines fields bytes rows count → source.bytes ≡ Some bytes → to_lines.Converts None limit source sink also
    → (also ≡ count) × Appends sink.bytes sink.bytes_after (lines_of fields rows)

-- and where its rows have lines, it is: no error is answered but those from outside
abbrev pub LinesDoNotFail : Type 0
LinesDoNotFail =
    (fields : List Field) (bytes : List ℕ) (rows : List (List Slot)) (count limit : ℕ) (source sink : Change) (e : Error) (f : IsFileOfLines fields bytes rows count)
    → HaveLines fields rows → AreShort (batch_blocks f) → IsTold source limit bytes → to_lines.ConversionFails None limit source sink e
    → CameFromOutside sink e

-- ---- rewriting twice

-- A file was rewritten: these are the bytes that were written, and so many rows. The name is UTF-8, as that of any `&str` is, the
-- sync marker has sixteen bytes (Avro 1.11, "Object Container Files"), and a number of 64 bits counts the bytes.
pub record IsRewrittenFile (name marker bytes : List ℕ) (count : ℕ) : Type 0 where
  pub limit : ℕ
  pub source : Change
  pub sink : Change
  pub rewrites : Rewrites name marker limit source sink count
  pub got : Got sink bytes
  pub named : IsUtf8 name
  pub sixteen : length marker ≡ 16
  pub few : length bytes < 2 ^ 63

-- The record of a rewritten file can be read back: the names of its fields come from a text that is UTF-8 and nests at most 128
-- deep, and no part of its own text stands in more brackets than what it comes from.
abbrev pub RewrittenIsWritable : Type 0
RewrittenIsWritable =
    (name marker : List ℕ) (limit : ℕ) (source sink : Change) (count : ℕ) (r : Rewrites name marker limit source sink count)
    → IsUtf8 name → IsWritable (schema.Record r.rewrites.target)

-- its blocks: the canonical ones of those that have a row
abbrev pub blocks_of : {name marker bytes : List ℕ} {count : ℕ} → IsRewrittenFile name marker bytes count → List FileBlock
blocks_of f = table_blocks (out-Record f.rewrites.rewrites.target).fields f.rewrites.rewrites.form.tables

-- such a file is an Avro file
abbrev pub RewrittenIsFile : Type 0
RewrittenIsFile =
    (name marker bytes : List ℕ) (count : ℕ) (f : IsRewrittenFile name marker bytes count)
    → AvroFile bytes f.rewrites.rewrites.target marker (blocks_of f)

-- where it is rewritten under the same name and marker, the sink gets the same bytes
abbrev pub RewrittenIsSame : Type 0
RewrittenIsSame =
    (name marker bytes : List ℕ) (count also limit : ℕ) (source sink : Change) (f : IsRewrittenFile name marker bytes count)
    → AreShort (blocks_of f) → source.bytes ≡ Some bytes → Rewrites name marker limit source sink also
    → (also ≡ count) × Appends sink.bytes sink.bytes_after bytes

-- and it is: no error is answered but those from outside
abbrev pub RewrittenDoesNotFail : Type 0
RewrittenDoesNotFail =
    (name marker bytes : List ℕ) (count limit : ℕ) (source sink : Change) (e : Error) (f : IsRewrittenFile name marker bytes count)
    → AreShort (blocks_of f) → IsTold source limit bytes → RewritingFails name marker limit source sink e
    → CameFromOutside sink e
