-- The lines so far, and those that are left, are those of all fields.
use Rattle.avrocat_commands.proofs.FieldsEndings.{LinesSoFar}
use Rattle.avrocat_commands.proofs.fields.field_lines.Given as goal

abbrev pub invariant-loop-i : goal.invariant-loop-i
invariant-loop-i l = LinesSoFar l.fields l.i l.text.items
