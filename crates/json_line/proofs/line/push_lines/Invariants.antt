-- The first lines are rows, which the builders took.
use Rattle.std.proofs.Common.{◌≡◌, map}
use Rattle.arrow_builders.specs.Shapes.{shape}
use Rattle.arrow_builders.specs.Tight.{AllTight}
use Rattle.json_line.proofs.Batches.{RowsSoFar}
use Rattle.json_line.proofs.line.push_lines.Given as goal

abbrev pub invariant-loop-i : goal.invariant-loop-i
invariant-loop-i l = record {
  shapes : map shape l.builders ≡ map shape l.fn.builders;
  tight : AllTight l.i l.builders;
  rows : RowsSoFar l.i l.lines l.names l.fn.builders l.builders;
}
