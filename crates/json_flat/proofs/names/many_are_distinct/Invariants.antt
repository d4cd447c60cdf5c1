-- The names that came are distinct, and they and those that are left decide.
use Rattle.std.proofs.Common.{length}
use Rattle.json_flat.proofs.DistinctNames.{Decide}
use Rattle.json_flat.proofs.names.many_are_distinct.Given as goal

abbrev pub invariant-loop-first : goal.invariant-loop-first
invariant-loop-first l = Decide l.seen l.rest l.fields

abbrev pub decreases-loop-first : goal.decreases-loop-first
decreases-loop-first l = length l.rest
