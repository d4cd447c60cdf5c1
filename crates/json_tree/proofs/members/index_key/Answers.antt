use Rattle.json_tree.proofs.KeyIndices.{indexed-more}
use Rattle.json_tree.proofs.members.index_key.Goals.{in-Ok-insert, in-Err-insert}
use Rattle.json_tree.proofs.members.index_key.Goals as goal

pub returns-after-insert-clause-added : goal.returns-after-insert-clause-added
returns-after-insert-clause-added c = elim c.match-insert.branch [
  | in-Ok-insert w ↦ rw w.result-is (indexed-more c.args.indices.now c.insert.new.self c.in-Ok.owned c.args.key.now c.args.at c.in-Ok.ensures.ok w.in-Ok-insert.ensures.updates c.requires)
  | in-Err-insert w ↦ rw w.result-is tt
]
