use Rattle.std.proofs.Common.{◌≡◌, take}
use Rattle.json_flat.specs.Columns.{lent}
use Rattle.json_columns.specs.Gathered.{members_named}
use Rattle.json_columns.proofs.gather.members_named.Given as goal

abbrev pub invariant-loop-value : goal.invariant-loop-value
invariant-loop-value l = lent l.members.items ≡ members_named l.name (lent (take l.value-index l.values))
