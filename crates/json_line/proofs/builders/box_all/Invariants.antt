-- The first builders gave their arrays.
use Rattle.std.proofs.Common.{◌≡◌, ◌++◌, drop, map}
use Rattle.arrow_array.specs.Arrays.{array_type, array_slots}
use Rattle.arrow_builders.specs.MutableArrays.{builder_type, builder_slots}
use Rattle.arrow_builders.proofs.Upto.{Upto}
use Rattle.json_line.proofs.Kept.{Kept}
use Rattle.json_line.proofs.builders.box_all.Given as goal

abbrev pub invariant-loop-i : goal.invariant-loop-i
invariant-loop-i l = record {
  each : Upto Kept l.i l.fn.builders l.builders;
  told_types : map array_type l.arrays.items ++ map builder_type (drop l.i l.fn.builders) ≡ map builder_type l.fn.builders;
  told_slots : map array_slots l.arrays.items ++ map builder_slots (drop l.i l.fn.builders) ≡ map builder_slots l.fn.builders;
}
