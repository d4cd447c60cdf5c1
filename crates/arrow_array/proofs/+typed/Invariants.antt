use Rattle.std.specs.List.{AllWithin}
use Rattle.arrow_array.specs.SlotTypes.{IsTyped}
use Rattle.arrow_array.proofs.+typed.Given as goal

abbrev pub invariant-structs::all_are_typed-loop-array : goal.invariant-structs::all_are_typed-loop-array
invariant-structs::all_are_typed-loop-array l = AllWithin IsTyped l.arrays 0 l.array-index
