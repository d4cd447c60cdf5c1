use Rattle.std.proofs.Common.{◌≡◌, ◌-◌, ◌≤◌}
use Rattle.std.specs.Prelude.{count_by}
use Rattle.std.specs.List.{range_with_len}
use Rattle.arrow_array.specs.Bits.{boolean_of}
use Rattle.arrow_array.proofs.bitmap.set_bits.Given as goal

abbrev pub invariant-loop-done : goal.invariant-loop-done
invariant-loop-done l = record {
  within : l.done ≤ l.count;
  fewer : l.set ≤ l.done;
  counted : l.set ≡ count_by (boolean_of l.words) (range_with_len l.start l.done);
}

abbrev pub decreases-loop-done : goal.decreases-loop-done
decreases-loop-done l = l.count - l.done
