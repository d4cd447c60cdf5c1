-- What inferring the type of lines takes from a source, and what it answers.
use Rattle.std.specs.Prelude.{◌≡◌, ◌⊎◌, ℕ, ◌+◌, ◌<◌, ◌≤◌, min, List, [], ◌∷◌, ◌++◌, length, filter, true, Option, Some, Result, Ok, Err, All, IsUtf8}
use Rattle.std.specs.Io.KnownBytes.{Consumes, IsAtEnd}
use Rattle.arrow_base.specs.Outside.{RoseOrFull, last_count}
use Rattle.arrow_core.specs.declared.error.Error.{Error}
use Rattle.arrow_core.specs.declared.error.Error.TheVariants.{ExternalFormat, LimitExceeded, ReadFault, OutOfMemory}
use Rattle.arrow_core.specs.declared.error.Reason.TheVariants as reason
use Rattle.arrow_core.specs.declared.types.DataType.{DataType}
use Rattle.json_tree.specs.declared.value.Value.{Value}
use Rattle.json_tree.specs.Meaning.{HoldsTooMany, IsJsonText}
use Rattle.json_infer.specs.Inferred.{type_of_rows}
use Rattle.ndjson_read.specs.Lines.{lines, line_feeds, rows_of, is_row, EndsLine}
use Rattle.ndjson_read.specs.Needed.{first_rows, StandFor, EachNeeded, NoMore, needed_lines, size_of_lines}

-- what a source tells: the bytes to come, where it tells them, and how often it failed
pub record Told : Type 0 where
  pub left : Option (List ℕ)
  pub faults : ℕ

abbrev pub told_of : {S : Type 0} → (S → Option (List ℕ)) → (S → ℕ) → S → Told
told_of left faults source = record { left = left source; faults = faults source }

-- these bytes were taken, no more than the limit
pub record TakesBytes (byte_limit : ℕ) (old new : Told) (taken : List ℕ) : Type 0 where
  pub consumed : Consumes old.left new.left taken
  pub limit : length taken ≤ byte_limit
  pub faults : old.faults ≤ new.faults

-- the bytes are whole lines, or reach the end of the source
abbrev pub AreWhole : List ℕ → Told → Type 0
AreWhole taken new = EndsLine taken ⊎ IsAtEnd new.left

-- a row stands for no value, by the error that says so
abbrev pub NoValue : List ℕ → Error → Type 0
NoValue row LimitExceeded = HoldsTooMany row
NoValue row (ExternalFormat reason.Json) = (HoldsTooMany row → ⊥) × ((value : Value) → IsJsonText value row → ⊥)
NoValue row OutOfMemory = Unit {0}
NoValue row _ = ⊥

module _ (number : Option ℕ) (byte_limit : ℕ) (old new : Told) where
  -- The type of the first rows is answered. They are the first rows of the bytes that were taken, of which there is one at
  -- least. These are whole lines with as many rows, or reach the end of the source; or no rows tell the type. The lines that are
  -- needed are UTF-8.
  pub record InfersType (data_type : DataType) : Type 0 where
    pub taken : List ℕ
    pub values : List Value
    pub takes : TakesBytes byte_limit old new taken
    pub some : 0 < length taken
    pub no_more : NoMore number taken
    pub utf8 : All IsUtf8 (needed_lines number (lines taken))
    pub rows : StandFor (first_rows number (rows_of taken)) values
    pub enough : ((number ≡ Some (length values)) × (EndsLine taken ⊎ (number ≡ Some 0))) ⊎ IsAtEnd new.left
    pub inferred : data_type ≡ type_of_rows values

  -- a read failed within the line of this number, counted from 1, or before its first byte; no line was begun that wasn't
  -- needed, nor would the next byte have begun one
  pub record ReadFails (line : ℕ) : Type 0 where
    pub taken : List ℕ
    pub takes : TakesBytes byte_limit old new taken
    pub no_more : (byte : ℕ) → NoMore number (taken ++ byte ∷ [])
    pub cause : RoseOrFull old.faults new.faults
    pub counted : line ≡ min (line_feeds taken + 1) last_count

  -- one byte more than the limit was taken
  pub record PassesLimit : Type 0 where
    pub taken : List ℕ
    pub byte : ℕ
    pub consumed : Consumes old.left new.left (taken ++ byte ∷ [])
    pub limit : length taken ≡ byte_limit
    pub faults : old.faults ≤ new.faults
    pub no_more : NoMore number (taken ++ byte ∷ [])

  -- a line that isn't UTF-8 was taken, and none after it
  pub record LineNotUtf8 : Type 0 where
    pub taken : List ℕ
    pub takes : TakesBytes byte_limit old new taken
    pub whole : AreWhole taken new
    pub each : EachNeeded number (lines taken)
    pub wrong : All IsUtf8 (lines taken) → ⊥

  -- a row of which this holds was taken, and no line after it
  pub record EndsAtRow (Holds : List ℕ → Type 0) : Type 0 where
    pub taken : List ℕ
    pub takes : TakesBytes byte_limit old new taken
    pub whole : AreWhole taken new
    pub each : EachNeeded number (lines taken)
    pub before : List (List ℕ)
    pub row : List ℕ
    pub last : lines taken ≡ before ++ row ∷ []
    pub shown : is_row row ≡ true
    pub utf8 : IsUtf8 row
    pub holds : Holds row

  -- the source has no byte
  pub record HasNoByte : Type 0 where
    pub takes : TakesBytes byte_limit old new []
    pub end : IsAtEnd new.left

  -- there was no memory
  pub record NoMemory : Type 0 where
    pub taken : List ℕ
    pub takes : TakesBytes byte_limit old new taken
    pub no_more : NoMore number taken

  -- why there is no type, by the error that says so
  abbrev pub NoType : Error → Type 0
  NoType (ReadFault (Some line)) = ReadFails line
  NoType LimitExceeded = PassesLimit ⊎ EndsAtRow HoldsTooMany
  NoType (ExternalFormat reason.Utf8Line) = LineNotUtf8
  NoType (ExternalFormat reason.Json) = EndsAtRow (λ row. (HoldsTooMany row → ⊥) × ((value : Value) → IsJsonText value row → ⊥))
  NoType (ExternalFormat reason.EmptyInput) = HasNoByte
  NoType OutOfMemory = NoMemory
  NoType _ = ⊥

  -- Where the contract knows the source's bytes, of which there is one at least, and didn't fail, and where the lines that are
  -- read have no more bytes than the limit, are UTF-8, and have rows that stand for these values, the answer is their type, or
  -- there was no memory.
  abbrev pub IsComplete : Result DataType Error → Type 0
  IsComplete result =
      (bytes : List ℕ) (values : List Value) → old.left ≡ Some bytes → 0 < length bytes → 0 < byte_limit → new.faults ≡ old.faults → new.faults < last_count
      → size_of_lines (needed_lines number (lines bytes)) ≤ byte_limit → All IsUtf8 (needed_lines number (lines bytes))
      → StandFor (filter is_row (needed_lines number (lines bytes))) values → (result ≡ Ok (type_of_rows values)) ⊎ (result ≡ Err OutOfMemory)
