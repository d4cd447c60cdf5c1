use Rattle.std.specs.List.{AllWithin}
use Rattle.arrow_array.specs.SlotTypes.{IsPrimitive}
use Rattle.arrow_array.proofs.ranges.tell_ranges.Given as goal

abbrev pub invariant-loop-value : goal.invariant-loop-value
invariant-loop-value g l = AllWithin (λ x. IsPrimitive g.T.NativeType.PRIMITIVE (g.T.NativeType.native_slot x)) l.values 0 l.value-index
