use Rattle.std.proofs.Common.{take}
use Rattle.arrow_array.specs.Structs.{AreCuts}
use Rattle.arrow_array.proofs.+slices.Given as goal

abbrev pub invariant-structs::slice_all-loop-array : goal.invariant-structs::slice_all-loop-array
invariant-structs::slice_all-loop-array l = AreCuts l.offset l.count (take l.array-index l.arrays) l.slices.items
