-- What a call for the next block does. Contracts of private functions alone cite this file.
use Rattle.std.specs.Prelude.{ℕ, List, Option, None, Some}
use Rattle.std.specs.Io.KnownBytes.{Appends, Keeps}
use Rattle.avro_container.specs.BlockReader.{AtEnd}
use Rattle.avro_container.specs.File.{FileBlock}
use Rattle.avro_container.specs.FileForms.{marked_block}
use Rattle.avro_container.specs.Taking.{State, Passed}

-- the next block was taken from the source, and the bytes that it becomes, of so many rows, were written to the sink
pub record WritesBlock (Shows : FileBlock → List ℕ → ℕ → Type 0) (marker : List ℕ) (old new : State) (held held_after : Option (List ℕ)) (count : ℕ) : Type 0 where
  pub block : FileBlock
  pub passed : Passed marked_block old new (block, marker)
  pub text : List ℕ
  pub shows : Shows block text count
  pub written : Appends held held_after text

-- it is written, or the source ended
abbrev pub NextWritten : (FileBlock → List ℕ → ℕ → Type 0) → List ℕ → State → State → Option (List ℕ) → Option (List ℕ) → Option ℕ → Type 0
NextWritten Shows marker old new held held_after None = AtEnd old new × Keeps held held_after
NextWritten Shows marker old new held held_after (Some count) = WritesBlock Shows marker old new held held_after count
