use Rattle.json_tree.specs.Keys.{keys_of}
use Rattle.json_tree.proofs.KeyIndices.{differ}
use Rattle.json_tree.proofs.value.Object.members.Goals as goal

pub returns-clause-distinct : goal.returns-clause-distinct
returns-clause-distinct c = differ (keys_of c.args.self.now.members) c.as_slice.ensures.distinct
