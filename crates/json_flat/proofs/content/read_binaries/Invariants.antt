use Rattle.std.proofs.Common.{◌≡◌, ◌≤◌, take}
use Rattle.arrow_array.specs.Parts.{binary_type}
use Rattle.arrow_core.specs.Numbers.{greatest_offset}
use Rattle.json_flat.specs.Columns.{AreSlotsOf, lent, total_size}
use Rattle.json_flat.specs.Meaning.{bytes_in}
use Rattle.json_flat.proofs.content.read_binaries.Given as goal

abbrev pub invariant-loop-value : goal.invariant-loop-value
invariant-loop-value g l = record {
  data_type : l.builder.data_type ≡ binary_type g.O.Offset.IS_LARGE;
  slots : AreSlotsOf bytes_in (lent (take l.value-index l.values)) l.builder.slots;
  bytes : l.builder.bytes ≡ total_size bytes_in (lent (take l.value-index l.values));
  within : l.builder.bytes ≤ greatest_offset g.O.Offset.IS_LARGE;
}
