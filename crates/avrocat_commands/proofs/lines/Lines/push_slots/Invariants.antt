-- The text has grown by the slots before index i.
use Rattle.std.proofs.Common.{◌≡◌, ◌++◌, map, take}
use Rattle.arrow_array.specs.Arrays.{array_slots}
use Rattle.avrocat_commands.specs.Shown.{slot_text, joined}
use Rattle.avrocat_commands.proofs.lines.Lines.push_slots.Given as goal

abbrev pub invariant-loop-i : goal.invariant-loop-i
invariant-loop-i l = l.self.text.items ≡ l.fn.self.text.items ++ joined (map slot_text (take l.i (array_slots l.column)))
