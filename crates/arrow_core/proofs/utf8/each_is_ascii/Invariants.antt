use Rattle.std.proofs.Common.{ℕ, ◌<◌}
use Rattle.std.specs.Prelude.{slice_index}
use Rattle.arrow_core.proofs.utf8.each_is_ascii.Given as goal

abbrev pub invariant-loop-i : goal.invariant-loop-i
invariant-loop-i l = record {
  ascii : (k : ℕ) → k < l.i → slice_index l.bytes k < 128;
}
