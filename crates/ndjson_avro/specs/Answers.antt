-- What a conversion of lines into a file answers where the contract knows the source's bytes, and of fields whose rows can't be
-- written.
use Rattle.std.specs.Prelude.{◌≡◌, ◌≢◌, ◌⊎◌, ℕ, List, All, IsUtf8}
use Rattle.arrow_core.specs.declared.error.Error.{Error}
use Rattle.arrow_core.specs.declared.error.Error.TheVariants.{OutOfMemory}
use Rattle.arrow_core.specs.declared.slot.Slot.{Slot}
use Rattle.arrow_core.specs.declared.types.DataType as types
use Rattle.arrow_core.specs.declared.types.Field.{Field}
use Rattle.avro_container.specs.Changes.{Change, CameFromOutside, IsTold}
use Rattle.avro_schema.specs.declared.schema.Record.{Record}
use Rattle.avro_schema.specs.declared.schema.Schema as schema
use Rattle.json_columns.specs.Faults.{TooMany}
use Rattle.ndjson_read.specs.Lines.{lines, rows_of}
use Rattle.ndjson_avro.specs.Conversion.{Converts, ConversionFails}
use Rattle.ndjson_avro.specs.Rows.{AreRows}
use Rattle.ndjson_avro.specs.Target.{HasNoTarget, HasTarget}

-- The bytes are lines in UTF-8, whose rows are rows of these fields; all of them together have no more items of lists,
-- nor bytes of strings or of binary values, than one column can count.
pub record AreLinesOf (fields : List Field) (name bytes : List ℕ) : Type 0 where
  pub target : Record
  pub has : HasTarget fields name target
  pub utf8 : All IsUtf8 (lines bytes)
  pub slots : List Slot
  pub rows : AreRows (types.Struct fields) (schema.Record target) (rows_of bytes) slots
  pub few : TooMany (types.Struct fields) rows.values → ⊥

-- of such lines no error is answered but out of memory, or a write fault where the sink failed
abbrev pub LinesAreWritten : Type 0
LinesAreWritten =
    (fields : List Field) (name marker bytes : List ℕ) (n limit : ℕ) (source sink : Change) (e : Error)
    → IsTold source limit bytes → AreLinesOf fields name bytes → ConversionFails fields name marker n limit source sink e → CameFromOutside sink e

-- where rows of the fields can't be written, the error says why, or memory ran out
abbrev pub FieldsAreRefused : Type 0
FieldsAreRefused =
    (fields : List Field) (name marker : List ℕ) (n limit : ℕ) (source sink : Change) (e due : Error)
    → due ≢ OutOfMemory → HasNoTarget fields due → ConversionFails fields name marker n limit source sink e → (e ≡ OutOfMemory) ⊎ (e ≡ due)

-- and no file is written
abbrev pub RefusedIsNotConverted : Type 0
RefusedIsNotConverted =
    (fields : List Field) (name marker : List ℕ) (n limit count : ℕ) (source sink : Change) (due : Error)
    → due ≢ OutOfMemory → HasNoTarget fields due → Converts fields name marker n limit source sink count → ⊥
