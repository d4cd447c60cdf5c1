-- The members that were read so far were taken.
use Rattle.std.proofs.Common.{◌≡◌, ◌≤◌, length, map}
use Rattle.arrow_builders.specs.Shapes.{shape}
use Rattle.json_line.proofs.Rows.{MembersSoFar}
use Rattle.json_line.proofs.line.read_columns.Given as goal

abbrev pub invariant-loop-at : goal.invariant-loop-at
invariant-loop-at l = record {
  shapes : map shape l.builders ≡ map shape l.fn.builders;
  forward : length l.reader ≤ length l.fn.reader;
  reads : MembersSoFar l.depth l.names l.fn.reader l.reader l.fn.builders l.builders;
}

abbrev pub decreases-loop-at : goal.decreases-loop-at
decreases-loop-at l = length l.reader
