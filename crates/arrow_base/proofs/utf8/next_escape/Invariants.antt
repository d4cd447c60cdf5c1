use Rattle.std.proofs.Common.{◌≡◌, take, flat_map}
use Rattle.arrow_base.specs.WrittenString.{escaped}
use Rattle.arrow_base.proofs.utf8.next_escape.Given as goal

abbrev pub invariant-loop-i : goal.invariant-loop-i
invariant-loop-i l = flat_map escaped (take l.i l.text) ≡ take l.i l.text
