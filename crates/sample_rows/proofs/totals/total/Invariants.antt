use Rattle.std.proofs.Common.{◌≡◌, take}
use Rattle.std.specs.Prelude.{sum_by}
use Rattle.arrow_array.specs.Arrays.{array_slots}
use Rattle.sample_rows.specs.Totals.{measured}
use Rattle.sample_rows.proofs.totals.total.Given as goal

abbrev pub invariant-loop-i : goal.invariant-loop-i
invariant-loop-i l = l.sum ≡ sum_by (measured l.measure) (take l.i (array_slots l.array))
