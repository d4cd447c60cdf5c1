use Rattle.std.proofs.Common.{map, ◌^◌}
use Rattle.arrow_array.proofs.Rising.{OffsetsBelow}
use Rattle.arrow_array.proofs.offsets.are_rising.Given as goal

abbrev pub invariant-loop-i : goal.invariant-loop-i
invariant-loop-i g l = OffsetsBelow (map g.O.Offset.number l.offsets) (2 ^ 64) l.i l.before
