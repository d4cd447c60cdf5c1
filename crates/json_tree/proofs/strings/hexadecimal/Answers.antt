use Rattle.std.proofs.Common.{arith}
use Rattle.arrow_base.specs.JsonString.{hexadecimal}
use Rattle.json_tree.proofs.strings.hexadecimal.Goals as goal

pub returns-then-a-b-clause-value : goal.returns-then-a-b-clause-value
unfolding hexadecimal
returns-then-a-b-clause-value c = rw (← c.digit_value-a.ensures.value, ← c.digit_value-b.ensures.value, ← c.digit_value-c.ensures.value, ← c.digit_value-d.ensures.value) (grind arith)

pub returns-else-a-b-clause-value : goal.returns-else-a-b-clause-value
unfolding hexadecimal
returns-else-a-b-clause-value c = rw (← c.digit_value-a.ensures.value, ← c.digit_value-b.ensures.value, ← c.digit_value-c.ensures.value, ← c.digit_value-d.ensures.value) (grind arith)
