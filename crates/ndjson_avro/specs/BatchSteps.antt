-- What is read of a batch, row after row. Contracts of private functions alone cite this file.
use Rattle.std.specs.Prelude.{◌≡◌, ◌⊎◌, ℕ, ◌+◌, ◌<◌, ◌≤◌, Bool, true, false, None, List, [], ◌∷◌, ◌++◌, length}
use Rattle.std.specs.Io.KnownBytes.{IsAtEnd}
use Rattle.arrow_core.specs.declared.error.Error.{Error}
use Rattle.ndjson_read.specs.FileReader.{batch_of, failure_of, limit_of}
use Rattle.ndjson_read.specs.declared.file_reader.FileReader.{FileReader}
use Rattle.ndjson_read.specs.Reading.{State, ShowsRows, NoRows}
use Rattle.ndjson_avro.specs.Taken.{RanOut, RowsFail, TakesRows}

-- a reader of one row at a time, as many as there are, that has answered no error
pub record IsOpen {S : Type 0} (reader : FileReader S) : Type 0 where
  pub one : batch_of reader ≡ 1
  pub all : limit_of reader ≡ None
  pub sound : failure_of reader ≡ None

-- a row was taken from the source, and the batch was given it; or there is none
abbrev pub NextRow : State → State → List (List ℕ) → List (List ℕ) → Bool → Type 0
NextRow old new before after true = (text : List ℕ) × ShowsRows 1 old new (text ∷ []) × (after ≡ before ++ text ∷ [])
NextRow old new before after false = ShowsRows 1 old new [] × (after ≡ before)

-- why no row was taken
abbrev pub NoRow : State → State → Error → Type 0
NoRow old new e = RanOut old new e ⊎ NoRows 1 old new e

-- these rows were taken, n of them at most, and fewer only at the end of the source; each row took at least one byte of the limit
pub record TakesSome (n : ℕ) (old new : State) (texts : List (List ℕ)) : Type 0 where
  pub takes : TakesRows old new texts
  pub most : length texts ≤ n
  pub fewer : length texts < n → IsAtEnd new.left
  pub few : length texts + new.limit ≤ old.limit

-- these rows were taken so far, n of them at most; each took at least one byte of the limit
pub record BatchSoFar (n : ℕ) (old new : State) (texts : List (List ℕ)) : Type 0 where
  pub takes : TakesRows old new texts
  pub most : length texts ≤ n
  pub few : length texts + new.limit ≤ old.limit

-- why a batch of n rows wasn't taken
abbrev pub NoRowsOf : ℕ → State → State → Error → Type 0
NoRowsOf n old new e = RanOut old new e ⊎ RowsFail n old new e
