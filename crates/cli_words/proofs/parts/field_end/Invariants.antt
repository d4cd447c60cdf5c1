-- The scan so far and that of the bytes from here are the whole.
use Rattle.std.proofs.Common.{◌≡◌, ◌+◌, ◌≤◌, drop}
use Rattle.cli_words.specs.FieldEnd.{field_length}
use Rattle.cli_words.proofs.parts.field_end.Given as goal

abbrev pub invariant-loop-i : goal.invariant-loop-i
invariant-loop-i l = record {
  scan : field_length 0 l.fields ≡ l.i + field_length l.level (drop l.i l.fields);
  level : l.level ≤ l.i;
}
