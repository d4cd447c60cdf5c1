use Rattle.std.proofs.Common.{◌≡◌, ◌++◌}
use Rattle.sample_rows.specs.Drawing.{before_row}
use Rattle.sample_rows.specs.Drawn.{users}
use Rattle.sample_rows.proofs.columns.push_users.Given as goal

abbrev pub invariant-loop : goal.invariant-loop
invariant-loop l = record {
  state : l.state ≡ before_row l.start l.counter;
  slots : l.column.slots ≡ l.fn.column.slots ++ users l.start l.counter;
}
