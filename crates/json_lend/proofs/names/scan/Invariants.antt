-- None of the first names is the key.
use Rattle.std.proofs.Common.{◌-◌}
use Rattle.json_lend.specs.Fields.{AreOthers}
use Rattle.json_lend.proofs.names.scan.Given as goal

abbrev pub invariant-loop-i : goal.invariant-loop-i
invariant-loop-i l = AreOthers l.names l.from l.i l.key

abbrev pub decreases-loop-i : goal.decreases-loop-i
decreases-loop-i l = l.to - l.i
