use Rattle.json_infer.proofs.Keeping.{one_at_a_time}
use Rattle.json_infer.proofs.laws.one_at_a_time.Goals as goal

pub returns : goal.returns
returns c = one_at_a_time
