-- The chunks before the rest need no escape.
use Rattle.std.proofs.Common.{length}
use Rattle.arrow_base.proofs.Runs.{Passed}
use Rattle.json_text.proofs.bytes.has_escape.Given as goal

abbrev pub invariant-loop-rest : goal.invariant-loop-rest
invariant-loop-rest l = Passed l.fn.string l.rest

abbrev pub decreases-loop-rest : goal.decreases-loop-rest
decreases-loop-rest l = length l.rest
