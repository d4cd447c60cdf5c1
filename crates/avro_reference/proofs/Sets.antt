-- The lemmas that reading a number wants.
use Rattle.avro_reference.proofs.Counting.{next_moves, next_costs}
use Rattle.avro_reference.proofs.Numbers.{number_is}

pub ruleset numbers = (number_is, next_moves, next_costs)
