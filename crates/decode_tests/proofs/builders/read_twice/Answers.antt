use Rattle.std.proofs.Common.{◌∙◌}
use Rattle.avro_decode.proofs.Capacity.{fits_stay}
use Rattle.avro_decode.proofs.Fields.{suit_same}
use Rattle.decode_tests.proofs.builders.read_twice.Goals as goal

pub read_rows-requires-clause-suits : goal.read_rows-requires-clause-suits
read_rows-requires-clause-suits g c = suit_same _ _ _ c.reserve.ensures.shapes c.requires.suits

pub read_rows-requires-clause-types_fit : goal.read_rows-requires-clause-types_fit
read_rows-requires-clause-types_fit g c = fits_stay _ _ c.reserve.ensures.shapes c.requires.types_fit

pub read_rows-requires-2-clause-suits : goal.read_rows-requires-2-clause-suits
read_rows-requires-2-clause-suits g c =
    suit_same _ _ _ (c.clear.ensures.shapes ∙ c.read_rows.ensures.shapes ∙ c.reserve.ensures.shapes) c.requires.suits

pub read_rows-requires-2-clause-types_fit : goal.read_rows-requires-2-clause-types_fit
read_rows-requires-2-clause-types_fit g c =
    fits_stay _ _ (c.clear.ensures.shapes ∙ c.read_rows.ensures.shapes ∙ c.reserve.ensures.shapes) c.requires.types_fit
