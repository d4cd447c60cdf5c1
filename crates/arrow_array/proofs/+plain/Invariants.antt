use Rattle.std.specs.List.{AllWithin}
use Rattle.arrow_array.specs.HoldsDictionary.{HoldsNone}
use Rattle.arrow_array.proofs.+plain.Given as goal

abbrev pub invariant-structs::all_hold_no_dictionary-loop-array : goal.invariant-structs::all_hold_no_dictionary-loop-array
invariant-structs::all_hold_no_dictionary-loop-array l = AllWithin HoldsNone l.arrays 0 l.array-index
