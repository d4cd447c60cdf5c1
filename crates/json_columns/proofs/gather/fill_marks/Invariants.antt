use Rattle.std.proofs.Common.{◌≡◌, take}
use Rattle.json_flat.specs.Columns.{lent}
use Rattle.json_columns.specs.Gathered.{are_objects}
use Rattle.json_columns.proofs.gather.fill_marks.Given as goal

abbrev pub invariant-loop-value : goal.invariant-loop-value
invariant-loop-value l = record {
  data_type : l.marks.data_type ≡ l.fn.marks.data_type;
  booleans : l.marks.booleans ≡ are_objects (lent (take l.value-index l.values));
}
