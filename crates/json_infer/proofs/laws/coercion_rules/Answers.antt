use Rattle.json_infer.proofs.Sizes.{coerce_is}
use Rattle.json_infer.proofs.laws.coercion_rules.Goals as goal

pub returns : goal.returns
returns c = coerce_is
