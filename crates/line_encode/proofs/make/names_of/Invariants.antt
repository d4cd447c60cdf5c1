-- The names of the first fields.
use Rattle.std.proofs.Common.{◌≡◌, take}
use Rattle.json_flat.specs.Names.{names_of}
use Rattle.line_encode.proofs.make.names_of.Given as goal

abbrev pub invariant-loop-field : goal.invariant-loop-field
invariant-loop-field l = l.names.items ≡ names_of (take l.field-index l.fields)
