use Rattle.avro_schema.proofs.Passes.{encodes_over}
use Rattle.avro_schema.proofs.laws.kept_can_be_skipped.Goals as goal

pub returns : goal.returns
returns c = encodes_over
