-- The text has grown by the lines before index i.
use Rattle.std.proofs.Common.{◌≡◌, ◌++◌, map, take}
use Rattle.arrow_array.specs.Arrays.{array_slots}
use Rattle.avrocat_commands.specs.Shown.{shown}
use Rattle.avrocat_commands.proofs.lines.Lines.push_columns.Given as goal

abbrev pub invariant-loop-i : goal.invariant-loop-i
invariant-loop-i l = l.self.text.items ≡ l.fn.self.text.items ++ shown (take l.i l.names) (map array_slots (take l.i l.columns))
