use Rattle.avro_decode.proofs.Capacity.{reserved_again}
use Rattle.avro_decode.proofs.laws.reserved_capacity_stays.Goals as goal

pub returns : goal.returns
returns c = reserved_again
