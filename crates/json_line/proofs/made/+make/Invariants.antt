-- A builder for each of the first fields.
use Rattle.std.proofs.Common.{◌≡◌, map, take}
use Rattle.arrow_builders.specs.Shapes.{shape}
use Rattle.json_line.specs.Builders.{shapes_of}
use Rattle.json_line.proofs.made.+make.Given as goal

abbrev pub invariant-make_builders-loop-field : goal.invariant-make_builders-loop-field
invariant-make_builders-loop-field l = map shape l.builders.items ≡ shapes_of (take l.field-index l.fields)
