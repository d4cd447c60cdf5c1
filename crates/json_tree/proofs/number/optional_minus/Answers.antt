use Rattle.json_tree.proofs.Numbers.{minus-moves}
use Rattle.json_tree.proofs.number.optional_minus.Goals as goal

pub returns-clause-reads : goal.returns-clause-reads
returns-clause-reads c = minus-moves c.takes.result c.args.reader.now c.takes.new.self c.takes.ensures.taken
