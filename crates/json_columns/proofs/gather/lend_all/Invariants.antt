use Rattle.std.proofs.Common.{◌≡◌, ◌++◌, take}
use Rattle.json_flat.specs.Columns.{lent}
use Rattle.json_columns.proofs.gather.lend_all.Given as goal

abbrev pub invariant-loop-value : goal.invariant-loop-value
invariant-loop-value l = lent l.lent_values.items ≡ lent l.fn.lent_values.items ++ take l.value-index l.more
