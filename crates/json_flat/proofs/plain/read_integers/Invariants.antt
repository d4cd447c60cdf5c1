use Rattle.std.proofs.Common.{◌≡◌, take}
use Rattle.json_flat.specs.Columns.{AreSlotsOf, lent}
use Rattle.json_flat.specs.Meaning.{whole_in}
use Rattle.json_flat.proofs.plain.read_integers.Given as goal

abbrev pub invariant-loop-value : goal.invariant-loop-value
invariant-loop-value g l = record {
  data_type : l.builder.data_type ≡ l.fn.data_type;
  slots : AreSlotsOf (whole_in g.T.WholeNumber.low g.T.WholeNumber.high) (lent (take l.value-index l.values)) l.builder.slots;
}
