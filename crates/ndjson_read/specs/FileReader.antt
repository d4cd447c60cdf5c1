-- What contracts see of a `FileReader`.
use Rattle.std.specs.Prelude.{ℕ, min, List, Option, Some, None, take, vec_len}
use Rattle.arrow_core.specs.declared.error.Error.{Error}
use Rattle.ndjson_read.specs.declared.file_reader.FileReader.{FileReader}
use Rattle.ndjson_read.specs.OneLine as one
use Rattle.ndjson_read.specs.Reading.{State}

-- the batch, or the limit where it is less
abbrev pub fewer_of : Option ℕ → ℕ → ℕ
fewer_of None batch = batch
fewer_of (Some limit) batch = min limit batch

module _ {S : Type 0} where
  abbrev pub source_of : FileReader S → S
  source_of reader = reader.lines.source

  -- how many rows an `advance` shows at most
  abbrev pub batch_of : FileReader S → ℕ
  batch_of reader = vec_len reader.rows

  -- how many rows may still be shown, where there is a limit
  abbrev pub limit_of : FileReader S → Option ℕ
  limit_of reader = reader.limit

  -- how many bytes may still be taken
  abbrev pub byte_limit_of : FileReader S → ℕ
  byte_limit_of reader = reader.lines.limit

  -- how many lines were read
  abbrev pub lines_of : FileReader S → ℕ
  lines_of reader = reader.lines.lines

  -- the rows that are shown
  abbrev pub shown_of : FileReader S → List (List ℕ)
  shown_of reader = take reader.shown reader.rows.items

  -- the error that an `advance` answered
  abbrev pub failure_of : FileReader S → Option Error
  failure_of reader = reader.failed

  -- how many rows the next `advance` is to show
  abbrev pub wanted_of : FileReader S → ℕ
  wanted_of reader = fewer_of (limit_of reader) (batch_of reader)

  -- the state of its source, by what that tells
  abbrev pub state_of : (S → Option (List ℕ)) → (S → ℕ) → FileReader S → State
  state_of left faults reader = one.state_of left faults reader.lines
