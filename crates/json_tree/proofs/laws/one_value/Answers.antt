use Rattle.json_tree.proofs.TextLaws.{one_value}
use Rattle.json_tree.proofs.laws.one_value.Goals as goal

pub returns : goal.returns
returns c = one_value
