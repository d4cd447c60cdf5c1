-- The builders of a decoder of block after block, and when they are ready for one.
use Rattle.std.specs.Prelude.{◌≡◌, List, map, All, Option, IfSome}
use Rattle.arrow_builders.specs.Fits.{TypesFit}
use Rattle.arrow_builders.specs.MutableArrays.{builder_type}
use Rattle.arrow_builders.specs.Nodes.{IsEmpty}
use Rattle.arrow_builders.specs.Shapes.{shape}
use Rattle.arrow_builders.specs.Tight.{IsTight}
use Rattle.arrow_builders.specs.declared.array.MutableArray.{MutableArray}
use Rattle.avro_schema.specs.ValidBlock.{kept}
use Rattle.avro_decode.specs.Capacity.{AtNodes}
use Rattle.avro_schema.specs.Columns.{kept_types}
use Rattle.avro_schema.specs.Refusals.{BelongTogether}
use Rattle.avro_decode.specs.Suits.{AllSuit}
use Rattle.avro_schema.specs.Projected.{Projected, CanBeDecoded}

-- cited by private contracts and `HoldsBuilders` alone: they belong together, and these are empty builders of the kept
-- fields, of which arrays can be made
pub record AreReady (p : Projected) (builders : List MutableArray) : Type 0 where
  pub together : BelongTogether p.fields p.avro_fields p.projection
  pub suits : AllSuit (kept p.avro_fields p.projection) builders
  pub data_types : map builder_type builders ≡ kept_types p.fields p.projection
  pub types_fit : All (λ b. TypesFit (shape b)) builders
  pub tight : All IsTight builders
  pub empty : AtNodes IsEmpty builders

-- cited by the decoder's own definition alone: what it is made for, and its builders, once it has some
pub record HoldsBuilders (p : Projected) (builders : Option (List MutableArray)) : Type 0 where
  pub possible : CanBeDecoded p
  pub ready : IfSome builders (AreReady p)
