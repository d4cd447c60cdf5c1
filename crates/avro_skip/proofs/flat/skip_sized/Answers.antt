use Rattle.avro_reference.proofs.Counting.{number_first}
use Rattle.avro_skip.proofs.flat.skip_sized.Goals as goal

pub returns-in-Some-clause-moves : goal.returns-in-Some-clause-moves
returns-in-Some-clause-moves g c =
    number_first _ _ _ _ _ _ c.in-Some.ensures.costs c.in-Some.ensures.moves c.skip_bytes.ensures.moves
