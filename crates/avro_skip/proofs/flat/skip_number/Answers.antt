use Rattle.avro_skip.proofs.Flats.{number_passes}
use Rattle.avro_skip.proofs.flat.skip_number.Goals as goal

pub returns-in-Some-clause-passes : goal.returns-in-Some-clause-passes
returns-in-Some-clause-passes g c = number_passes _ _ _ _ _ _ c.in-Some.ensures.reads c.in-Some.ensures.costs
