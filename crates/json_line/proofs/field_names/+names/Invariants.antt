-- The names beneath the first fields.
use Rattle.std.proofs.Common.{take}
use Rattle.arrow_builders.specs.Children.{fields_of}
use Rattle.json_line.specs.Builders.{shapes_of, AllSuit}
use Rattle.json_line.proofs.field_names.+names.Given as goal

abbrev pub invariant-names_below-loop-field : goal.invariant-names_below-loop-field
invariant-names_below-loop-field l = AllSuit l.below.items (fields_of (shapes_of (take l.field-index l.fields)))
