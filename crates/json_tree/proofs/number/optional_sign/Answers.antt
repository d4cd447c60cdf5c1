use Rattle.json_tree.proofs.Numbers.{sign-minus, sign-plus}
use Rattle.json_tree.proofs.number.optional_sign.Goals as goal

pub returns-then-takes-clause-reads : goal.returns-then-takes-clause-reads
returns-then-takes-clause-reads c = sign-minus c.args.reader.now c.takes.new.self c.if-takes.ensures.taken

pub returns-clause-reads : goal.returns-clause-reads
returns-clause-reads c = let h = c.if-takes.ensures.taken in sign-plus c.takes-2.result c.args.reader.now c.takes.new.self c.takes-2.new.self h.0 h.1 c.takes-2.ensures.taken
