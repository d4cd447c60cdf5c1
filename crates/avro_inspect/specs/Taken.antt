-- Blocks that were taken one after another, and counted (Avro 1.11, "Object Container Files").
use Rattle.std.specs.Prelude.{◌≡◌, ℕ, List, length, sum_by}
use Rattle.arrow_core.specs.declared.error.Error.{Error}
use Rattle.avro_container.specs.BlockReader.{NoBlock, AtEnd}
use Rattle.avro_container.specs.File.{FileBlock, IsFileBlock, Sequence}
use Rattle.avro_container.specs.Taking.{State, Takes}
use Rattle.avro_inspect.specs.declared.count.FileCounts.{FileCounts}

-- how many rows the blocks state in all, and how many blocks there are
pub record AreCounts (counts : FileCounts) (blocks : List FileBlock) : Type 0 where
  pub rows : counts.rows ≡ sum_by (λ b. b.rows) blocks
  pub number : counts.blocks ≡ length blocks

-- these blocks were taken, one after another
pub record TakesBlocks (marker : List ℕ) (old new : State) (blocks : List FileBlock) : Type 0 where
  pub bytes : List ℕ
  pub taken : Takes old new bytes
  pub sequence : Sequence (IsFileBlock marker) bytes blocks

-- cited by a private contract alone: blocks were taken up to the source's end, and counted
pub record CountsBlocks (marker : List ℕ) (old new : State) (counts : FileCounts) : Type 0 where
  pub blocks : List FileBlock
  pub between : State
  pub takes : TakesBlocks marker old between blocks
  pub ended : AtEnd between new
  pub counted : AreCounts counts blocks

-- blocks were taken, and the error says why there is no next one
pub record StopsCounting (marker : List ℕ) (old new : State) (e : Error) : Type 0 where
  pub blocks : List FileBlock
  pub between : State
  pub takes : TakesBlocks marker old between blocks
  pub no_next : NoBlock marker between new e
