use Rattle.std.proofs.Common.{◌≡◌, take}
use Rattle.json_flat.specs.Columns.{AreSlotsOf, lent}
use Rattle.json_flat.specs.Meaning.{moment_in}
use Rattle.json_flat.proofs.moment.read_moments.Given as goal

abbrev pub invariant-loop-value : goal.invariant-loop-value
invariant-loop-value l = record {
  data_type : l.builder.data_type ≡ l.fn.data_type;
  slots : AreSlotsOf moment_in (lent (take l.value-index l.values)) l.builder.slots;
}
