-- The names of the fields before this one.
use Rattle.std.proofs.Common.{take}
use Rattle.json_columns.specs.Names.{AreNames}
use Rattle.json_columns.proofs.names.names_of.Given as goal

abbrev pub invariant-loop-field : goal.invariant-loop-field
invariant-loop-field l = AreNames (take l.field-index l.fields) l.names
