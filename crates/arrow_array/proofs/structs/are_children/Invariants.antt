use Rattle.std.proofs.Common.{take}
use Rattle.arrow_array.specs.Structs.{AreChildren}
use Rattle.arrow_array.proofs.structs.are_children.Given as goal

abbrev pub invariant-loop-k : goal.invariant-loop-k
invariant-loop-k l = AreChildren l.count (take l.k l.fields) (take l.k l.children)
