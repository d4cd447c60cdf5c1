use Rattle.std.proofs.Common.{length, ◌≤◌, ◌≡◌}
use Rattle.arrow_base.proofs.Written.{Underway}
use Rattle.arrow_base.proofs.sink.write_all.Given as goal

abbrev pub invariant-loop-rest : goal.invariant-loop-rest
invariant-loop-rest g l = record {
  underway : Underway (g.K.Sink.held l.fn.sink) (g.K.Sink.held l.sink) l.fn.bytes l.rest;
  never_falls : g.K.Sink.faults l.fn.sink ≤ g.K.Sink.faults l.sink;
  same : g.K.Sink.identity l.sink ≡ g.K.Sink.identity l.fn.sink;
}

abbrev pub decreases-loop-rest : goal.decreases-loop-rest
decreases-loop-rest g l = length l.rest
