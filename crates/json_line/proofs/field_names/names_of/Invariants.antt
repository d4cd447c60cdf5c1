-- The first fields' names.
use Rattle.std.proofs.Common.{◌≡◌, take}
use Rattle.json_flat.specs.Names.{names_of}
use Rattle.json_line.proofs.field_names.names_of.Given as goal

abbrev pub invariant-loop-field : goal.invariant-loop-field
invariant-loop-field l = l.names.items ≡ names_of (take l.field-index l.fields)
