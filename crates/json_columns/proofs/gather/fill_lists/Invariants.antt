use Rattle.std.proofs.Common.{◌≡◌, ◌≤◌, length, take}
use Rattle.arrow_core.specs.Numbers.{greatest_offset}
use Rattle.json_flat.specs.Columns.{lent}
use Rattle.json_columns.specs.Gathered.{all_items, list_lens}
use Rattle.json_columns.proofs.gather.fill_lists.Given as goal

abbrev pub invariant-loop-value : goal.invariant-loop-value
invariant-loop-value g l = record {
  data_type : l.lists.data_type ≡ l.fn.lists.data_type;
  lens : l.lists.lens ≡ list_lens (lent (take l.value-index l.values));
  items : lent l.items.items ≡ all_items (lent (take l.value-index l.values));
  counted : length l.items.items ≤ greatest_offset g.O.Offset.IS_LARGE;
}
