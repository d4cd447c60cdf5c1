use Rattle.json_tree.proofs.Numbers.{frac-digits}
use Rattle.json_tree.proofs.number.fraction_part.Goals as goal

pub returns-then-takes-clause-reads : goal.returns-then-takes-clause-reads
returns-then-takes-clause-reads c = frac-digits c.some_digits.result c.args.reader.now c.takes.new.self c.some_digits.new.reader c.if-takes.ensures.taken c.some_digits.ensures.reads
