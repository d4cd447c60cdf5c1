-- Lines are read into columns of the types of the fields before this one.
use Rattle.std.proofs.Common.{◌≡◌, true, take}
use Rattle.json_line.specs.Lines.{have_line_readings}
use Rattle.json_line.proofs.types.+readable.Given as goal

abbrev pub invariant-have_line_readings-loop-field : goal.invariant-have_line_readings-loop-field
invariant-have_line_readings-loop-field l = have_line_readings (take l.field-index l.fields) ≡ true
