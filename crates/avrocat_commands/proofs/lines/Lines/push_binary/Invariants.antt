-- The bytes before index i have been added.
use Rattle.std.proofs.Common.{◌≡◌, ◌++◌, take, codes}
use Rattle.std.specs.Prelude.{flat_map}
use Rattle.avrocat_commands.specs.Shown.{hexadecimal}
use Rattle.avrocat_commands.proofs.lines.Lines.push_binary.Given as goal

abbrev pub invariant-loop-i : goal.invariant-loop-i
invariant-loop-i l = l.self.text.items ≡ (l.fn.self.text.items ++ codes "0x") ++ flat_map hexadecimal (take l.i l.bytes)
