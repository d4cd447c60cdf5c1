use Rattle.std.proofs.Common.{◌≡◌, take}
use Rattle.json_flat.specs.Columns.{lent}
use Rattle.json_columns.specs.Gathered.{all_sized, are_sized}
use Rattle.json_columns.proofs.gather.fill_sized.Given as goal

abbrev pub invariant-loop-value : goal.invariant-loop-value
invariant-loop-value l = record {
  data_type : l.marks.data_type ≡ l.fn.marks.data_type;
  booleans : l.marks.booleans ≡ are_sized l.size (lent (take l.value-index l.values));
  items : lent l.items.items ≡ all_sized l.size (lent (take l.value-index l.values));
}
