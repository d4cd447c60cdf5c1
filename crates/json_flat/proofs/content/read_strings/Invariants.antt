use Rattle.std.proofs.Common.{◌≡◌, ◌≤◌, take}
use Rattle.arrow_array.specs.Parts.{utf8_type}
use Rattle.arrow_core.specs.Numbers.{greatest_offset}
use Rattle.json_flat.specs.Columns.{AreSlotsOf, lent, total_size}
use Rattle.json_flat.specs.Meaning.{text_in}
use Rattle.json_flat.proofs.content.read_strings.Given as goal

abbrev pub invariant-loop-value : goal.invariant-loop-value
invariant-loop-value g l = record {
  data_type : l.builder.data_type ≡ utf8_type g.O.Offset.IS_LARGE;
  slots : AreSlotsOf text_in (lent (take l.value-index l.values)) l.builder.slots;
  bytes : l.builder.bytes ≡ total_size text_in (lent (take l.value-index l.values));
  within : l.builder.bytes ≤ greatest_offset g.O.Offset.IS_LARGE;
}
