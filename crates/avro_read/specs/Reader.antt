-- What contracts see of a reader of files, and what its `next` answers.
use Rattle.std.specs.Prelude.{◌≡◌, ℕ, List, map, All, Bool, IsTrue, Option, Some, None, Result, Ok, Err, ◌⊎◌}
use Rattle.arrow_core.specs.declared.error.Error.{Error}
use Rattle.arrow_array.specs.declared.array.Array.{Array}
use Rattle.arrow_array.specs.Arrays.{array_type, array_slots}
use Rattle.arrow_builders.specs.NormalizedArrays.{IsNormalized}
use Rattle.avro_schema.specs.ValidBlock.{ValidBlock}
use Rattle.avro_container.specs.BlockReader.{NoBlock, AtEnd}
use Rattle.avro_container.specs.BlockReader as blocks
use Rattle.avro_container.specs.File.{FileBlock}
use Rattle.avro_container.specs.FileForms.{marked_block}
use Rattle.avro_container.specs.Taking.{State, Passed}
use Rattle.avro_schema.specs.Columns.{AreColumns, kept_types}
use Rattle.avro_schema.specs.Projected.{Projected}
use Rattle.avro_schema.specs.Refusals.{BelongTogether, AreCounted, BlockRefused}
use Rattle.avro_decode.specs.Symbols.{dictionary_values, kept_symbols}
use Rattle.avro_read.specs.declared.reader.Reader.{Reader}

module _ {S : Type 0} where
  abbrev pub source_of : Reader S → S
  source_of reader = blocks.source_of reader.blocks

  -- the fields, the Avro fields, and which of them are kept
  abbrev pub projected_of : Reader S → Projected
  projected_of reader = reader.decoder

  abbrev pub marker_of : Reader S → List ℕ
  marker_of reader = blocks.marker_of reader.blocks

  -- how many bytes it may still take
  abbrev pub limit_of : Reader S → ℕ
  limit_of reader = blocks.limit_of reader.blocks

  -- the source ended before a block
  abbrev pub has_ended : Reader S → Bool
  has_ended reader = blocks.has_ended reader.blocks

  -- the error that it answered
  abbrev pub failure_of : Reader S → Option Error
  failure_of reader = reader.failed

  -- it has neither ended nor failed
  abbrev pub IsOpen : Reader S → Type 0
  IsOpen reader = blocks.IsOpen reader.blocks × (failure_of reader ≡ None)

  -- the source ended before a block, and it did not fail
  abbrev pub HasEnded : Reader S → Type 0
  HasEnded reader = IsTrue (has_ended reader) × (failure_of reader ≡ None)

  -- the state of its source, by what that tells
  abbrev pub state_of : (S → Option (List ℕ)) → (S → ℕ) → Reader S → State
  state_of left faults reader = blocks.state_of left faults reader.blocks

-- the next block was taken, and these are the columns of its kept fields
pub record ReadsChunk (p : Projected) (marker : List ℕ) (old new : State) (chunk : List Array) : Type 0 where
  pub block : FileBlock
  pub passed : Passed marked_block old new (block, marker)
  pub valid : ValidBlock block.rows block.bytes p.fields p.avro_fields p.projection
  pub together : BelongTogether p.fields p.avro_fields p.projection
  pub counted : AreCounted block.rows p.fields p.projection block.bytes
  pub columns : AreColumns block.rows p.avro_fields p.projection block.bytes (map array_slots chunk)
  pub data_types : map array_type chunk ≡ kept_types p.fields p.projection
  pub dictionaries : map dictionary_values chunk ≡ kept_symbols p.avro_fields p.projection
  pub normalized : All IsNormalized chunk

-- the next block was taken, and it is refused for what the error says
pub record RefusedBlock (p : Projected) (marker : List ℕ) (old new : State) (e : Error) : Type 0 where
  pub block : FileBlock
  pub passed : Passed marked_block old new (block, marker)
  pub refused : BlockRefused p.fields block.rows p.avro_fields p.projection block.bytes e

-- what is answered: a block's chunk, or why there is none; nothing where the source ended before a block
abbrev pub Next : Projected → List ℕ → State → State → Option (Result (List Array) Error) → Type 0
Next p marker old new None = AtEnd old new
Next p marker old new (Some (Ok chunk)) = ReadsChunk p marker old new chunk
Next p marker old new (Some (Err e)) = NoBlock marker old new e ⊎ RefusedBlock p marker old new e

-- the error among the answers
abbrev pub error_in : Option (Result (List Array) Error) → Option Error
error_in None = None
error_in (Some (Ok chunk)) = None
error_in (Some (Err e)) = Some e
