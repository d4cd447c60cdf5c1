use Rattle.std.proofs.Common.{◌∙◌, List, map, ap}
use Rattle.arrow_builders.specs.Shapes.{shape}
use Rattle.arrow_builders.specs.declared.array.MutableArray.{MutableArray}
use Rattle.avro_decode.proofs.Capacity.{fits_stay}
use Rattle.avro_decode.proofs.Fields.{suit_same}
use Rattle.convert_tests.proofs.guide_blocks.counted.Goals as goal

pub count_rows-requires-clause-suits : goal.count_rows-requires-clause-suits
count_rows-requires-clause-suits c =
    suit_same _ _ _ (c.reserve.ensures.shapes ∙ ap (λ (bs : List MutableArray). map shape bs) c.as_mut_slice-builders.ensures.value) c.in_ok-builders.ensures.suits

pub count_rows-requires-clause-types_fit : goal.count_rows-requires-clause-types_fit
count_rows-requires-clause-types_fit c =
    fits_stay _ _ (c.reserve.ensures.shapes ∙ ap (λ (bs : List MutableArray). map shape bs) c.as_mut_slice-builders.ensures.value) c.in_ok-builders.ensures.types_fit
