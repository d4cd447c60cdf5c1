use Rattle.std.proofs.Common.{◌≡◌, take}
use Rattle.arrow_core.specs.declared.types.DataType.TheVariants.{Boolean}
use Rattle.json_flat.specs.Columns.{AreSlotsOf, lent}
use Rattle.json_flat.specs.Meaning.{boolean_in}
use Rattle.json_flat.proofs.plain.read_booleans.Given as goal

abbrev pub invariant-loop-value : goal.invariant-loop-value
invariant-loop-value l = record {
  data_type : l.builder.data_type ≡ Boolean;
  slots : AreSlotsOf boolean_in (lent (take l.value-index l.values)) l.builder.slots;
}
