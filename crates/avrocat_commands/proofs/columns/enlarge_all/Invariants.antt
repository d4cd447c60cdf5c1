-- The large ones are those of the fields so far.
use Rattle.std.proofs.Common.{◌≡◌, map, take}
use Rattle.avro_types.specs.Enlarged.{enlarged}
use Rattle.avrocat_commands.proofs.columns.enlarge_all.Given as goal

abbrev pub invariant-loop-field : goal.invariant-loop-field
invariant-loop-field l = l.large.items ≡ map enlarged (take l.field-index l.fields)
