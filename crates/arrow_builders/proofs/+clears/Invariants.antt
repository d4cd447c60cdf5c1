use Rattle.arrow_builders.specs.Calls.{Clears}
use Rattle.arrow_builders.proofs.Upto.{Upto}
use Rattle.arrow_builders.proofs.+clears.Given as goal

abbrev pub invariant-structs::clear_all-loop-i : goal.invariant-structs::clear_all-loop-i
invariant-structs::clear_all-loop-i l = record {
  kept : goal.unvisited-structs::clear_all-loop-i l;
  each : Upto Clears l.i l.fn.children l.children;
}
