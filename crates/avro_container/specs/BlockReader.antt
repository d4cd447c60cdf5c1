-- What contracts see of a `BlockReader`, and what its `next` answers.
use Rattle.std.specs.Prelude.{◌≡◌, ◌≢◌, ℕ, ◌<◌, List, [], length, Bool, true, false, Option, None, ◌⊎◌}
use Rattle.std.specs.Io.KnownBytes.{IsAtEnd}
use Rattle.arrow_core.specs.declared.error.Error.{Error}
use Rattle.arrow_core.specs.declared.error.Error.TheVariants.{ExternalFormat, LimitExceeded, ReadFault, OutOfMemory}
use Rattle.arrow_core.specs.declared.error.Reason.TheVariants as reason
use Rattle.avro_container.specs.declared.block_reader.BlockReader.{BlockReader}
use Rattle.avro_container.specs.declared.parts.Stop.TheVariants as stop
use Rattle.avro_container.specs.File.{FileBlock, the_block}
use Rattle.avro_container.specs.FileForms.{marked_block}
use Rattle.avro_container.specs.Taking.{State, state, Takes, Passed, Stopped}

module _ {S : Type 0} where
  abbrev pub source_of : BlockReader S → S
  source_of reader = reader.source

  abbrev pub marker_of : BlockReader S → List ℕ
  marker_of reader = reader.marker

  -- how many bytes it may still take
  abbrev pub limit_of : BlockReader S → ℕ
  limit_of reader = reader.limit

  -- it answered false
  abbrev pub has_ended : BlockReader S → Bool
  has_ended reader = reader.ended

  -- the error that it answered
  abbrev pub failure_of : BlockReader S → Option Error
  failure_of reader = reader.failed

  -- it has neither ended nor failed
  abbrev pub IsOpen : BlockReader S → Type 0
  IsOpen reader = (has_ended reader ≡ false) × (failure_of reader ≡ None)

  -- the state of its source, by what that tells
  abbrev pub state_of : (S → Option (List ℕ)) → (S → ℕ) → BlockReader S → State
  state_of left faults reader = state (left (source_of reader)) (faults (source_of reader)) (limit_of reader) None

-- bytes were taken that begin a block, one at least, and the source ended there
pub record CutShort (old new : State) : Type 0 where
  pub taken : List ℕ
  pub takes : Takes old new taken
  pub begun : marked_block.begun taken
  pub ended : IsAtEnd new.left
  pub some : 0 < length taken

-- a block of another marker was taken
pub record OtherMarker (marker : List ℕ) (old new : State) : Type 0 where
  pub block : FileBlock
  pub other : List ℕ
  pub taken : Passed marked_block old new (block, other)
  pub differs : other ≢ marker

-- why there is no next block, by the error that says so
abbrev pub NoBlock : List ℕ → State → State → Error → Type 0
NoBlock marker old new (ReadFault None) = Stopped marked_block old new stop.Fault
NoBlock marker old new LimitExceeded = Stopped marked_block old new stop.Limit
NoBlock marker old new (ExternalFormat reason.Container) = Stopped marked_block old new stop.Wrong ⊎ CutShort old new
NoBlock marker old new (ExternalFormat reason.Marker) = OtherMarker marker old new
NoBlock marker old new OutOfMemory = Stopped marked_block old new stop.Memory
NoBlock marker old new _ = ⊥

-- the source ended before the first byte of a block
abbrev pub AtEnd : State → State → Type 0
AtEnd old new = Takes old new [] × IsAtEnd new.left

-- what is answered in Ok: true with a block, or false at the end
abbrev pub Next : List ℕ → State → State → ℕ → List ℕ → Bool → Type 0
Next marker old new rows bytes true = Passed marked_block old new (the_block rows bytes, marker)
Next marker old new rows bytes false = AtEnd old new
