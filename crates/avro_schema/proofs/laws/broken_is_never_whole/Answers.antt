use Rattle.avro_schema.proofs.NeverWhole.{broken_excludes}
use Rattle.avro_schema.proofs.laws.broken_is_never_whole.Goals as goal

pub returns : goal.returns
returns c = broken_excludes
