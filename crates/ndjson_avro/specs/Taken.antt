-- Which rows were taken from a source of lines.
use Rattle.std.specs.Prelude.{◌≡◌, ◌⊎◌, ℕ, ◌<◌, List, length, All, IfSome, IsUtf8}
use Rattle.std.specs.Io.KnownBytes.{IsAtEnd}
use Rattle.arrow_core.specs.declared.error.Error.{Error}
use Rattle.arrow_core.specs.declared.error.Error.TheVariants.{OutOfMemory}
use Rattle.ndjson_read.specs.Lines.{lines, rows_of, EndsLine}
use Rattle.ndjson_read.specs.Reading.{State, NoRows, Takes, n_more}

-- the bytes that were taken are lines in UTF-8, whole ones or up to the end of the source; these are their rows, and the reader
-- counted the lines
pub record AreRowsOf (old new : State) (taken : List ℕ) (texts : List (List ℕ)) : Type 0 where
  pub rows : texts ≡ rows_of taken
  pub whole : EndsLine taken ⊎ IsAtEnd new.left
  pub utf8 : All IsUtf8 (lines taken)
  pub counted : new.lines ≡ n_more old.lines (length (lines taken))

-- These rows were taken. Where the contract knows the source's bytes, they are the rows of the bytes that were taken of it, which
-- are no more than the limit.
pub record TakesRows (old new : State) (texts : List (List ℕ)) : Type 0 where
  pub taken : List ℕ
  pub takes : Takes old new taken
  pub told : IfSome old.left (λ _. AreRowsOf old new taken texts)

-- there was no memory; some bytes were taken, or none
pub record RanOut (old new : State) (e : Error) : Type 0 where
  pub is : e ≡ OutOfMemory
  pub taken : List ℕ
  pub takes : Takes old new taken

-- rows of a batch of n were taken, and the next one was not, for the reason that the error says
pub record RowsFail (n : ℕ) (old new : State) (e : Error) : Type 0 where
  pub between : State
  pub texts : List (List ℕ)
  pub takes : TakesRows old between texts
  pub wanted : length texts < n
  pub fails : NoRows 1 between new e
