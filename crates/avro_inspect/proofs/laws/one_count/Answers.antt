use Rattle.avro_inspect.proofs.Complete.{one_count}
use Rattle.avro_inspect.proofs.laws.one_count.Goals as goal

pub returns : goal.returns
returns c = one_count
