-- What was taken of a source and written to a sink, block after block (Avro 1.11, "Object Container Files"). `Shows`
-- says which bytes a block becomes and how many rows these have, and `Wrong` why it becomes none.
use Rattle.std.specs.Prelude.{◌≡◌, ℕ, List, ◌++◌, sum_by, Option, ◌⊎◌}
use Rattle.std.specs.List.{AllZip, flat_map}
use Rattle.std.specs.Io.KnownBytes.{Appends, Keeps}
use Rattle.arrow_base.specs.Outside.{AppendsPrefix}
use Rattle.arrow_core.specs.declared.error.Error.{Error}
use Rattle.arrow_core.specs.declared.error.Error.TheVariants.{WriteFault}
use Rattle.avro_container.specs.BlockReader.{NoBlock, AtEnd}
use Rattle.avro_container.specs.File.{FileBlock, IsFileBlock, Sequence}
use Rattle.avro_container.specs.FileForms.{marked_block}
use Rattle.avro_container.specs.Taking.{State, Takes, Passed}
use Rattle.avro_container.specs.Changes.{Change, change_of, Failed}

-- the bytes that the block becomes were appended
abbrev pub AppendsBlock : (FileBlock → List ℕ → Type 0) → FileBlock → List ℕ → List ℕ → Type 0
AppendsBlock Shows block old new = (text : List ℕ) × Shows block text × (new ≡ old ++ text)

-- and they have so many rows
abbrev pub AppendsRows : (FileBlock → List ℕ → ℕ → Type 0) → FileBlock → List ℕ → List ℕ → ℕ → Type 0
AppendsRows Shows block old new rows = AppendsBlock (λ b text. Shows b text rows) block old new

-- the bytes that a block becomes have all of its rows
abbrev pub WithAllRows : (FileBlock → List ℕ → Type 0) → FileBlock → List ℕ → ℕ → Type 0
WithAllRows Shows block text rows = Shows block text × (rows ≡ block.rows)

-- what a block became: bytes, and how many rows they have
pub record BlockText : Type 0 where
  pub text : List ℕ
  pub rows : ℕ

-- each block became its text
abbrev pub ShowBlocks : (FileBlock → List ℕ → ℕ → Type 0) → List FileBlock → List BlockText → Type 0
ShowBlocks Shows = AllZip (λ b t. Shows b t.text t.rows)

-- one block after another was taken, and the bytes that they become were written, which have so many rows in all
pub record WritesBlocks (Shows : FileBlock → List ℕ → ℕ → Type 0) (marker : List ℕ) (old new : State) (held held_after : Option (List ℕ)) (count : ℕ) : Type 0 where
  pub bytes : List ℕ
  pub taken : Takes old new bytes
  pub blocks : List FileBlock
  pub sequence : Sequence (IsFileBlock marker) bytes blocks
  pub texts : List BlockText
  pub shows : ShowBlocks Shows blocks texts
  pub written : Appends held held_after (flat_map (λ t. t.text) texts)
  pub counted : count ≡ sum_by (λ t. t.rows) texts

-- all blocks were written, so many rows in all, and then the source ended
pub record AllWritten (Shows : FileBlock → List ℕ → ℕ → Type 0) (marker : List ℕ) (old new : State) (held held_after : Option (List ℕ)) (count : ℕ) : Type 0 where
  pub between : State
  pub held_between : Option (List ℕ)
  pub writes : WritesBlocks Shows marker old between held held_between count
  pub ended : AtEnd between new
  pub keeps : Keeps held_between held_after

-- ---- where a block isn't written

-- a block was taken whole, and the error says what is wrong with it
pub record WrongBlock (Wrong : FileBlock → Error → Type 0) (marker : List ℕ) (old new : State) (e : Error) : Type 0 where
  pub block : FileBlock
  pub passed : Passed marked_block old new (block, marker)
  pub wrong : Wrong block e

-- a block was taken, and the sink failed after a prefix of the bytes that it becomes
pub record BreaksOff (Shows : FileBlock → List ℕ → ℕ → Type 0) (marker : List ℕ) (old new : State) (sink : Change) (e : Error) : Type 0 where
  pub is : e ≡ WriteFault
  pub block : FileBlock
  pub passed : Passed marked_block old new (block, marker)
  pub text : List ℕ
  pub rows : ℕ
  pub shows : Shows block text rows
  pub prefix : AppendsPrefix sink.bytes sink.bytes_after text
  pub failed : Failed sink

-- why the next block wasn't written; only a failing sink has taken any byte of it
abbrev pub BlockFails : (FileBlock → List ℕ → ℕ → Type 0) → (FileBlock → Error → Type 0) → List ℕ → State → State → Change → Error → Type 0
BlockFails Shows Wrong marker old new sink e =
    (Keeps sink.bytes sink.bytes_after × (NoBlock marker old new e ⊎ WrongBlock Wrong marker old new e)) ⊎ BreaksOff Shows marker old new sink e

-- whole blocks were written, and the next one was not
pub record StopsAtBlock (Shows : FileBlock → List ℕ → ℕ → Type 0) (Wrong : FileBlock → Error → Type 0) (marker : List ℕ) (old new : State) (sink : Change) (e : Error) : Type 0 where
  pub between : State
  pub held : Option (List ℕ)
  pub count : ℕ
  pub before : WritesBlocks Shows marker old between sink.bytes held count
  pub fails : BlockFails Shows Wrong marker between new (change_of held sink.faults sink.bytes_after sink.faults_after) e
