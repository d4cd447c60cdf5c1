use Rattle.json_tree.proofs.Answering.{within}
use Rattle.json_tree.proofs.laws.within_the_limit.Goals as goal

pub returns : goal.returns
returns c = within
