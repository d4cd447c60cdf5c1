use Rattle.std.proofs.Common.{◌≡◌, length, ◌≤◌, ◌<◌, ◌^◌, flat_map}
use Rattle.arrow_base.specs.WrittenString.{escaped}
use Rattle.arrow_base.proofs.Written.{Underway}
use Rattle.arrow_base.proofs.utf8.write_escaped.Given as goal

abbrev pub invariant-loop-plain : goal.invariant-loop-plain
invariant-loop-plain g l = record {
  underway : Underway (g.K.Sink.held l.fn.sink) (g.K.Sink.held l.sink) (flat_map escaped l.fn.text) (flat_map escaped l.rest);
  fits : length l.rest < 2 ^ 64;
  never_falls : g.K.Sink.faults l.fn.sink ≤ g.K.Sink.faults l.sink;
  same : g.K.Sink.identity l.sink ≡ g.K.Sink.identity l.fn.sink;
}

abbrev pub decreases-loop-plain : goal.decreases-loop-plain
decreases-loop-plain g l = length l.rest
