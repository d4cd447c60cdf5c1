-- The first builders are cleared.
use Rattle.arrow_builders.proofs.Upto.{Upto}
use Rattle.json_line.proofs.Kept.{Cleared}
use Rattle.json_line.proofs.builders.clear_all.Given as goal

abbrev pub invariant-loop-i : goal.invariant-loop-i
invariant-loop-i l = Upto Cleared l.i l.fn.builders l.builders
