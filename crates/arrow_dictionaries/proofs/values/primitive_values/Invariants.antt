-- The slots so far are those of the values so far.
use Rattle.std.proofs.Common.{◌≡◌, map, take}
use Rattle.arrow_dictionaries.proofs.values.primitive_values.Given as goal

abbrev pub invariant-loop-value : goal.invariant-loop-value
invariant-loop-value g l = record {
  data_type : l.builder.data_type ≡ l.fn.data_type;
  slots : l.builder.slots ≡ map g.T.NativeType.native_slot (take l.value-index l.values);
}
