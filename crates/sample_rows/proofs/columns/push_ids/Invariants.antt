use Rattle.std.proofs.Common.{◌≡◌, ◌++◌}
use Rattle.sample_rows.specs.Drawn.{ids}
use Rattle.sample_rows.proofs.columns.push_ids.Given as goal

abbrev pub invariant-loop-i : goal.invariant-loop-i
invariant-loop-i l = l.column.slots ≡ l.fn.column.slots ++ ids l.i
