use Rattle.json_tree.proofs.Numbers.{int-zero, int-digits}
use Rattle.json_tree.proofs.number.integer_part.Goals as goal

pub returns-then-takes-clause-reads : goal.returns-then-takes-clause-reads
returns-then-takes-clause-reads c = int-zero c.args.reader.now c.takes.new.self c.if-takes.ensures.taken

pub returns-clause-reads : goal.returns-clause-reads
returns-clause-reads c = let h = c.if-takes.ensures.taken in int-digits c.some_digits.result c.args.reader.now c.takes.new.self c.some_digits.new.reader h.0 h.1 c.some_digits.ensures.reads
