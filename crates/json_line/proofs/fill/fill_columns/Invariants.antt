-- The first builders are filled.
use Rattle.std.proofs.Common.{◌≡◌, map}
use Rattle.arrow_builders.specs.Shapes.{shape}
use Rattle.arrow_builders.proofs.Upto.{Upto}
use Rattle.json_line.specs.Builders.{Fills}
use Rattle.json_line.proofs.fill.fill_columns.Given as goal

abbrev pub invariant-loop-i : goal.invariant-loop-i
invariant-loop-i l = record {
  shapes : map shape l.builders ≡ map shape l.fn.builders;
  each : Upto (Fills l.count) l.i l.fn.builders l.builders;
}
