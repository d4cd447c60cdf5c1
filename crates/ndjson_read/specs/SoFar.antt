-- Cited by private contracts and proofs alone: what one row adds, and why none is added.
use Rattle.std.specs.Prelude.{◌≡◌, ◌≢◌, ◌⊎◌, ℕ, ◌-◌, ◌<◌, List, [], ◌∷◌, ◌++◌, length, Bool, cond, Option, Some, All, IsUtf8}
use Rattle.std.specs.Io.KnownBytes.{IsAtEnd}
use Rattle.arrow_core.specs.declared.error.Error.{Error}
use Rattle.arrow_core.specs.declared.error.Error.TheVariants.{ExternalFormat, LimitExceeded, ReadFault, OutOfMemory}
use Rattle.arrow_core.specs.declared.error.Reason.TheVariants as reason
use Rattle.json_tree.specs.declared.value.Value.{Value}
use Rattle.json_tree.specs.Meaning.{HoldsTooMany, IsJsonText}
use Rattle.ndjson_read.specs.Lines.{lines, rows_of, EndsLine, EachWanted}
use Rattle.ndjson_read.specs.Reading as reading
use Rattle.ndjson_read.specs.Reading.{State, Takes, ShowsRows, n_more}
use Rattle.std.specs.Option.{option_map}
use Rattle.json_infer.specs.Inferred.{type_of_rows}
use Rattle.ndjson_read.specs.Needed.{StandFor, EachNeeded}
use Rattle.ndjson_read.specs.Inference.{Told, InfersType, HasNoByte, NoMemory}

-- a line feed stands last
abbrev pub EndsInFeed : List ℕ → Type 0
EndsInFeed row = (prefix : List ℕ) × (row ≡ prefix ++ 10 ∷ [])

-- lines were taken, of which at most one is a row. There may be more where these are whole lines; else the source has ended, or none was
-- wanted.
pub record AddsRow (wanted : ℕ) (old new : State) (values : List Value) (more : Bool) : Type 0 where
  pub taken : List ℕ
  pub takes : Takes old new taken
  pub whole : cond more (EndsLine taken × (0 < length taken)) (IsAtEnd new.left ⊎ (wanted ≡ 0))
  pub utf8 : All IsUtf8 (lines taken)
  pub each : EachWanted wanted (lines taken)
  pub rows : StandFor (rows_of taken) values
  pub counted : new.lines ≡ n_more old.lines (length (lines taken))

-- the row that is shown is one of which this holds
pub record ShowsFaulty (wanted : ℕ) (old new : State) (Holds : List ℕ → Type 0) : Type 0 where
  pub row : List ℕ
  pub shows : ShowsRows wanted old new (row ∷ [])
  pub holds : Holds row

-- why no row was added, by the error that says so
abbrev pub NoRow : ℕ → State → State → Error → Type 0
NoRow wanted old new (ReadFault (Some number)) = reading.ReadFails wanted old new number
NoRow wanted old new LimitExceeded = reading.PassesLimit wanted old new ⊎ ShowsFaulty wanted old new HoldsTooMany
NoRow wanted old new (ExternalFormat reason.Utf8Line) = reading.LineNotUtf8 wanted old new
NoRow wanted old new (ExternalFormat reason.Json) = ShowsFaulty wanted old new (λ row. (HoldsTooMany row → ⊥) × ((value : Value) → IsJsonText value row → ⊥))
NoRow wanted old new OutOfMemory = reading.NoMemory wanted old new
NoRow wanted old new _ = ⊥

-- rows so far: those of whole lines that were taken
pub record RowsSoFar (number : Option ℕ) (old new : State) (values : List Value) : Type 0 where
  pub taken : List ℕ
  pub takes : Takes old new taken
  pub whole : EndsLine taken
  pub utf8 : All IsUtf8 (lines taken)
  pub each : EachNeeded number (lines taken)
  pub rows : StandFor (rows_of taken) values
  pub counted : new.lines ≡ n_more old.lines (length (lines taken))

-- what the source tells in this state
abbrev pub told : State → Told
told s = record { left = s.left; faults = s.faults }

-- the rows have ended: no bytes came, or the rows of those that came stand for the values
pub record Ended (number : Option ℕ) (old new : State) (values : List Value) : Type 0 where
  pub infers : new.lines ≢ 0 → InfersType number old.limit (told old) (told new) (type_of_rows values)
  pub empty : new.lines ≡ 0 → HasNoByte number old.limit (told old) (told new)
  pub memory : NoMemory number old.limit (told old) (told new)

-- rows so far, and so many may still be shown, where there may be more; else they have ended
abbrev pub AddedSoFar : (number : Option ℕ) → (old new : State) → (limit : Option ℕ) → (values : List Value) → (more : Bool) → Type 0
AddedSoFar number old new limit values more =
    cond more (RowsSoFar number old new values × (limit ≡ option_map (λ n. n - length values) number)) (Ended number old new values)
