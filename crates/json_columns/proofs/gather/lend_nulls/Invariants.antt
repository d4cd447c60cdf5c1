use Rattle.std.proofs.Common.{◌≡◌, ◌++◌}
use Rattle.json_flat.specs.Columns.{lent}
use Rattle.json_columns.specs.Gathered.{nulls}
use Rattle.json_columns.proofs.gather.lend_nulls.Given as goal

abbrev pub invariant-loop : goal.invariant-loop
invariant-loop l = lent l.lent_values.items ≡ lent l.fn.lent_values.items ++ nulls l.counter
