-- The first builders are filled.
use Rattle.std.proofs.Common.{◌≡◌, map}
use Rattle.arrow_builders.specs.Shapes.{shape}
use Rattle.arrow_builders.proofs.Upto.{Upto}
use Rattle.json_line.specs.Builders.{Fills}
use Rattle.json_line.proofs.fill.fill_fields.Given as goal

abbrev pub invariant-loop-i : goal.invariant-loop-i
invariant-loop-i l = record {
  marks : l.structs.marks ≡ l.fn.structs.marks;
  shapes : map shape l.structs.values.items ≡ map shape l.fn.structs.values.items;
  each : Upto (Fills l.count) l.i l.fn.structs.values.items l.structs.values.items;
}
