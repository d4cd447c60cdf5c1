-- What is taken for one line. Of what is here only state_of has to be read to believe a public contract; private contracts alone
-- cite the rest.
use Rattle.std.specs.Prelude.{◌≡◌, ℕ, ◌<◌, List, [], ◌∷◌, ◌++◌, length, Bool, true, cond, Option, Some, All, IsUtf8}
use Rattle.std.specs.Io.KnownBytes.{IsAtEnd}
use Rattle.arrow_base.specs.Outside.{RoseOrFull}
use Rattle.arrow_core.specs.declared.error.Error.{Error}
use Rattle.arrow_core.specs.declared.error.Error.TheVariants.{ExternalFormat, LimitExceeded, ReadFault, OutOfMemory}
use Rattle.arrow_core.specs.declared.error.Reason.TheVariants as reason
use Rattle.ndjson_read.specs.Lines.{lines, line_feeds, rows_of, EndsLine, EachWanted}
use Rattle.ndjson_read.specs.Reading.{State, Takes, TakesPast, n_more}
use Rattle.ndjson_read.specs.declared.line_source.LineSource.{LineSource}

-- the state of a source of lines, by what its source tells
abbrev pub state_of : {S : Type 0} → (S → Option (List ℕ)) → (S → ℕ) → LineSource S → State
state_of left faults s = record { left = left s.source; faults = faults s.source; limit = s.limit; lines = s.lines }

-- none, or one
abbrev pub one_or_none : List ℕ → List (List ℕ)
one_or_none [] = []
one_or_none (byte ∷ bytes) = (byte ∷ bytes) ∷ []

-- a failed read has the number of the line that it came in
abbrev pub within_line : Error → ℕ → Error
within_line (ReadFault line) number = ReadFault (Some number)
within_line error number = error

-- no line feed is among the bytes
abbrev pub IsPart : List ℕ → Type 0
IsPart bytes = line_feeds bytes ≡ 0

-- bytes were taken, and stand at the end of the line: at least one, of which `byte` is the last and none before it is a line feed
pub record PushesBytes (old new : State) (before line : List ℕ) (byte : ℕ) : Type 0 where
  pub part : List ℕ
  pub takes : Takes old new (part ++ byte ∷ [])
  pub is_part : IsPart part
  pub appended : line ≡ before ++ (part ++ byte ∷ [])

-- a line was taken: through its line feed, and there may be more, or to the end of the source. At the end it may be
-- empty, which is no line.
pub record TakesLine (old new : State) (line : List ℕ) (more : Bool) : Type 0 where
  pub takes : Takes old new line
  pub one : lines line ≡ one_or_none line
  pub whole : cond more (EndsLine line) (IsAtEnd new.left)
  pub some : more ≡ true → 0 < length line
  pub counted : new.lines ≡ n_more old.lines (length (one_or_none line))

-- a line was taken that isn't UTF-8
pub record TakesWrong (old new : State) : Type 0 where
  pub line : List ℕ
  pub more : Bool
  pub line_taken : TakesLine old new line more
  pub wrong : IsUtf8 line → ⊥

-- a part of a line was taken, and a read failed
pub record FailsWithin (old new : State) (number : ℕ) : Type 0 where
  pub part : List ℕ
  pub takes : Takes old new part
  pub is_part : IsPart part
  pub cause : RoseOrFull old.faults new.faults
  pub counted : number ≡ n_more old.lines 1
  pub kept : new.lines ≡ old.lines

-- a part of a line was taken, and then one byte more than the limit
pub record PassesWithin (old new : State) : Type 0 where
  pub part : List ℕ
  pub byte : ℕ
  pub takes : TakesPast old new part byte
  pub is_part : IsPart part
  pub kept : new.lines ≡ old.lines

-- a line or a part of one was taken, and there was no memory
pub record NoMemoryWithin (old new : State) : Type 0 where
  pub part : List ℕ
  pub takes : Takes old new part
  pub one : lines part ≡ one_or_none part

-- why bytes of a line are missing, by the error that says so
abbrev pub NoBytes : State → State → Error → Type 0
NoBytes old new (ReadFault (Some number)) = FailsWithin old new number
NoBytes old new LimitExceeded = PassesWithin old new
NoBytes old new OutOfMemory = NoMemoryWithin old new
NoBytes old new _ = ⊥

-- why there is no line, by the error that says so
abbrev pub NoLine : State → State → Error → Type 0
NoLine old new (ReadFault (Some number)) = FailsWithin old new number
NoLine old new LimitExceeded = PassesWithin old new
NoLine old new (ExternalFormat reason.Utf8Line) = TakesWrong old new
NoLine old new OutOfMemory = NoMemoryWithin old new
NoLine old new _ = ⊥

-- rows so far: those of the bytes that were taken. There may be more where these are whole lines; else the source is at
-- its end.
pub record RowsSoFar (wanted : ℕ) (old new : State) (rows : List (List ℕ)) (more : Bool) : Type 0 where
  pub taken : List ℕ
  pub takes : Takes old new taken
  pub whole : cond more (EndsLine taken) (IsAtEnd new.left)
  pub utf8 : All IsUtf8 (lines taken)
  pub shown : rows ≡ rows_of taken
  pub each : EachWanted wanted (lines taken)
  pub counted : new.lines ≡ n_more old.lines (length (lines taken))
