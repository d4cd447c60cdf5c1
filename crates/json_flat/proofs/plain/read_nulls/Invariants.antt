use Rattle.std.proofs.Common.{◌≡◌, take}
use Rattle.arrow_core.specs.declared.types.DataType.TheVariants.{Null}
use Rattle.json_flat.specs.Columns.{AreSlotsOf, lent}
use Rattle.json_flat.specs.Meaning.{null_in}
use Rattle.json_flat.proofs.plain.read_nulls.Given as goal

abbrev pub invariant-loop-value : goal.invariant-loop-value
invariant-loop-value l = record {
  data_type : l.builder.data_type ≡ Null;
  slots : AreSlotsOf null_in (lent (take l._value-index l.values)) l.builder.slots;
}
