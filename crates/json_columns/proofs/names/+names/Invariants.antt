-- The type of no field before this one names a field twice.
use Rattle.std.proofs.Common.{◌≡◌, false, take}
use Rattle.json_columns.specs.Names.{any_names_twice}
use Rattle.json_columns.proofs.names.+names.Given as goal

abbrev pub invariant-any_names_twice-loop-field : goal.invariant-any_names_twice-loop-field
invariant-any_names_twice-loop-field l = any_names_twice (take l.field-index l.fields) ≡ false
