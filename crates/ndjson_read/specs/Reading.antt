-- What a reader of lines takes from a source, and why it shows no rows.
use Rattle.std.specs.Prelude.{◌≡◌, ◌⊎◌, ℕ, ◌+◌, ◌-◌, ◌<◌, ◌≤◌, min, List, [], ◌∷◌, ◌++◌, length, Option, Some, All, IsUtf8}
use Rattle.std.specs.Io.KnownBytes.{Consumes, IsAtEnd}
use Rattle.arrow_base.specs.Outside.{RoseOrFull, last_count}
use Rattle.arrow_core.specs.declared.error.Error.{Error}
use Rattle.arrow_core.specs.declared.error.Error.TheVariants.{ExternalFormat, LimitExceeded, ReadFault, OutOfMemory}
use Rattle.arrow_core.specs.declared.error.Reason.TheVariants as reason
use Rattle.ndjson_read.specs.Lines.{lines, line_feeds, rows_of, EndsLine, EachWanted}

-- the bytes to come, where the source tells them; how often it failed; how many bytes may still be taken; how many
-- lines were read
pub record State : Type 0 where
  pub left : Option (List ℕ)
  pub faults : ℕ
  pub limit : ℕ
  pub lines : ℕ

abbrev pub state : Option (List ℕ) → ℕ → ℕ → ℕ → State
state left faults limit lines = record { left = left; faults = faults; limit = limit; lines = lines }

-- a count after n more, as far as 64 bits count them
abbrev pub n_more : ℕ → ℕ → ℕ
n_more count n = count + min n (last_count - count)

-- these bytes were taken, within the limit
pub record Takes (old new : State) (taken : List ℕ) : Type 0 where
  pub consumed : Consumes old.left new.left taken
  pub limit : old.limit ≡ length taken + new.limit
  pub faults : old.faults ≤ new.faults

-- these bytes, which are as many as the limit, were taken, and one more
pub record TakesPast (old new : State) (taken : List ℕ) (byte : ℕ) : Type 0 where
  pub consumed : Consumes old.left new.left (taken ++ byte ∷ [])
  pub limit : old.limit ≡ length taken
  pub faults : old.faults ≤ new.faults

-- These rows are shown, of the wanted number or fewer: the rows of the bytes that were taken, which are whole lines, or
-- reach the end of the source. Fewer are shown only at that end. No line was begun that wasn't wanted.
pub record ShowsRows (wanted : ℕ) (old new : State) (shown : List (List ℕ)) : Type 0 where
  pub taken : List ℕ
  pub takes : Takes old new taken
  pub whole : EndsLine taken ⊎ IsAtEnd new.left
  pub utf8 : All IsUtf8 (lines taken)
  pub rows : shown ≡ rows_of taken
  pub each : EachWanted wanted (lines taken)
  pub most : length shown ≤ wanted
  pub fewer : length shown < wanted → IsAtEnd new.left
  pub counted : new.lines ≡ n_more old.lines (length (lines taken))

-- a read failed within the line of this number, counted from 1, or before its first byte; each line was wanted, and so
-- was that of the next byte, whichever it is; the lines before that line were read
pub record ReadFails (wanted : ℕ) (old new : State) (number : ℕ) : Type 0 where
  pub taken : List ℕ
  pub takes : Takes old new taken
  pub each : (byte : ℕ) → EachWanted wanted (lines (taken ++ byte ∷ []))
  pub cause : RoseOrFull old.faults new.faults
  pub counted : number ≡ n_more old.lines (line_feeds taken + 1)
  pub read : new.lines ≡ n_more old.lines (line_feeds taken)

-- one byte more than the limit was taken; each line was wanted; the lines before that of this byte were read
pub record PassesLimit (wanted : ℕ) (old new : State) : Type 0 where
  pub taken : List ℕ
  pub byte : ℕ
  pub takes : TakesPast old new taken byte
  pub each : EachWanted wanted (lines (taken ++ byte ∷ []))
  pub read : new.lines ≡ n_more old.lines (line_feeds taken)

-- whole lines were taken, or lines to the end of the source, of which one isn't UTF-8. As each line was wanted after
-- those before it, that one is the last; it was read, as they were.
pub record LineNotUtf8 (wanted : ℕ) (old new : State) : Type 0 where
  pub taken : List ℕ
  pub takes : Takes old new taken
  pub whole : EndsLine taken ⊎ IsAtEnd new.left
  pub each : EachWanted wanted (lines taken)
  pub wrong : All IsUtf8 (lines taken) → ⊥
  pub read : new.lines ≡ n_more old.lines (length (lines taken))

-- there was no memory; each line was wanted
pub record NoMemory (wanted : ℕ) (old new : State) : Type 0 where
  pub taken : List ℕ
  pub takes : Takes old new taken
  pub each : EachWanted wanted (lines taken)

-- why there are no rows, by the error that says so
abbrev pub NoRows : ℕ → State → State → Error → Type 0
NoRows wanted old new (ReadFault (Some number)) = ReadFails wanted old new number
NoRows wanted old new LimitExceeded = PassesLimit wanted old new
NoRows wanted old new (ExternalFormat reason.Utf8Line) = LineNotUtf8 wanted old new
NoRows wanted old new OutOfMemory = NoMemory wanted old new
NoRows wanted old new _ = ⊥
