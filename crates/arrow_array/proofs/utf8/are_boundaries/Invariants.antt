use Rattle.std.proofs.Common.{ℕ, ◌<◌, map}
use Rattle.arrow_array.specs.Offsets.{offset_at, IsBoundary}
use Rattle.arrow_array.proofs.utf8.are_boundaries.Given as goal

abbrev pub invariant-loop-i : goal.invariant-loop-i
invariant-loop-i g l = (k : ℕ) → k < l.i → IsBoundary l.string l.start (offset_at (map g.O.Offset.number l.offsets) k)
