-- The fields so far are alike: all are where those that are left are.
use Rattle.std.proofs.Common.{drop}
use Rattle.avro_verbatim.specs.Alike.{AreAlike}
use Rattle.avro_verbatim.proofs.alike.+alike.Given as goal

abbrev pub invariant-are_alike-loop-i : goal.invariant-are_alike-loop-i
invariant-are_alike-loop-i l = AreAlike (drop l.i l.sources) (drop l.i l.targets) → AreAlike l.sources l.targets
