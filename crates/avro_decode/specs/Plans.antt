-- What the rows of a block are read by. Contracts of private functions alone cite this file.
use Rattle.std.specs.Prelude.{◌≡◌, ℕ, List, length, map, All, Result, OnOk}
use Rattle.arrow_builders.specs.Shapes.{shape}
use Rattle.arrow_builders.specs.Tight.{IsTight}
use Rattle.arrow_builders.specs.declared.array.MutableArray.{MutableArray}
use Rattle.avro_schema.specs.declared.schema.AvroField.{AvroField}
use Rattle.avro_schema.specs.Carried.{CarriedList}
use Rattle.avro_schema.specs.ValidBlock.{kept}
use Rattle.avro_reference.specs.Costs.{passed, Moves}
use Rattle.avro_decode.specs.declared.fault.BlockFault.{BlockFault}
use Rattle.avro_decode.specs.declared.plan.Plan.{Plan}
use Rattle.avro_decode.specs.Decoding.{BlockHasMemory}
use Rattle.avro_decode.specs.Growth.{ChildrenGrow, ChildrenReach, ChildrenHaveSpare}
use Rattle.avro_decode.specs.Suits.{AllSuit}

-- the fields that are kept
abbrev pub kept_fields : Plan → List AvroField
kept_fields p = kept p.avro_fields.now p.projection.now

-- The plan has a flag for each field, each field is carried, and it fits the builders of the kept ones: they suit their
-- schemas and are tight, and their offsets can count n slots more, and n content bytes where these are bounded.
pub record PlanFits (p : Plan) (n : ℕ) (builders : List MutableArray) : Type 0 where
  pub lengths : length p.avro_fields.now ≡ length p.projection.now
  pub carried : CarriedList p.avro_fields.now
  pub suits : AllSuit (kept_fields p) builders
  pub tight : All IsTight builders
  pub offsets : ChildrenReach n (kept_fields p) builders

-- What reading rows keeps. Whatever the answer, the builders' shapes are the same; they grow by no more than the bytes
-- passed; where the bytes bound all content, and each node has spare capacity for the bytes ahead, memory doesn't run
-- out; and the cursor is the same one and only moves forward. On Ok the builders are tight. What an Ok costs is told
-- beside what it gives (`GivesRows`).
pub record KeepsRows {X Y : Type 0} (rest : X → List ℕ) (calls identity : X → ℕ) (p : Plan) (old new : X) (before now : List MutableArray) (r : Result Y BlockFault) : Type 0 where
  pub shapes : map shape now ≡ map shape before
  pub tight : OnOk r (All IsTight now)
  pub grows : ChildrenGrow (passed (rest old) (rest new)) (kept_fields p) before now
  pub has_capacity : ChildrenHaveSpare (length (rest old)) (kept_fields p) before → BlockHasMemory r
  pub same : identity new ≡ identity old
  pub moves : Moves rest calls old new
