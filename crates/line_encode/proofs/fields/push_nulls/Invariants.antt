-- Null was appended for the fields before the one at hand.
use Rattle.std.proofs.Common.{◌≤◌}
use Rattle.line_encode.specs.Plans.{Fills}
use Rattle.line_encode.proofs.fields.push_nulls.Given as goal

abbrev pub invariant-loop-k : goal.invariant-loop-k
invariant-loop-k l = (l.k ≤ l.to) × Fills l.plans l.from l.k l.fn.out.items l.out.items
