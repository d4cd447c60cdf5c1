use Rattle.std.proofs.Common.{◌≡◌, ◌++◌}
use Rattle.arrow_core.specs.declared.physical.PhysicalType.TheVariants as physical
use Rattle.arrow_builders.specs.MutableArrays.{builder_kind, builder_slots}
use Rattle.arrow_builders.specs.Tight.{IsTight}
use Rattle.arrow_builders.specs.declared.array.MutableArray.{List}
use Rattle.sample_rows.specs.Drawing.{before_row}
use Rattle.sample_rows.specs.Drawn.{tag_lists}
use Rattle.sample_rows.proofs.tags.push_lists.Given as goal

abbrev pub invariant-loop : goal.invariant-loop
invariant-loop l = record {
  state : l.state ≡ before_row l.start l.counter;
  kind : builder_kind l.lists.values.value ≡ physical.Utf8;
  tight : IsTight (List l.lists);
  slots : builder_slots (List l.lists) ≡ builder_slots (List l.fn.lists) ++ tag_lists l.start l.counter;
}
