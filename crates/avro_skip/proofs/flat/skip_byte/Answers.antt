use Rattle.avro_reference.proofs.Counting.{byte_moves}
use Rattle.avro_skip.proofs.Flats.{byte_passes}
use Rattle.avro_skip.proofs.flat.skip_byte.Goals as goal

pub returns-in-Some-clause-moves : goal.returns-in-Some-clause-moves
returns-in-Some-clause-moves g c = let e = c.in-Some.ensures in byte_moves _ _ _ _ _ e.read e.calls

pub returns-in-Some-clause-passes : goal.returns-in-Some-clause-passes
returns-in-Some-clause-passes g c = let e = c.in-Some.ensures in byte_passes _ _ _ _ _ _ e.read e.shown e.calls
