use Rattle.json_infer.proofs.AnyOrder.{any_order}
use Rattle.json_infer.proofs.laws.any_order.Goals as goal

pub returns : goal.returns
returns c = any_order
