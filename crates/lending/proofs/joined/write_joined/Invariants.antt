use Rattle.std.proofs.Common.{◌≡◌, ◌≤◌}
use Rattle.lending.proofs.JoinedLemmas.{SoFar}
use Rattle.lending.proofs.joined.write_joined.Given as goal

abbrev pub invariant-loop-lender : goal.invariant-loop-lender
invariant-loop-lender g l = record {
  again : g.I.FallibleStreamingIterator.can_advance l.lender;
  so_far : SoFar g.I.FallibleStreamingIterator.step g.I.FallibleStreamingIterator.shown g.I.FallibleStreamingIterator.items g.I.FallibleStreamingIterator.to_come l.separator
      l.fn.lender l.lender l.is_first (g.K.Sink.held l.fn.sink) (g.K.Sink.held l.sink);
  never_falls : g.K.Sink.faults l.fn.sink ≤ g.K.Sink.faults l.sink;
  same : g.K.Sink.identity l.sink ≡ g.K.Sink.identity l.fn.sink;
}

abbrev pub decreases-loop-lender : goal.decreases-loop-lender
decreases-loop-lender g l = g.I.FallibleStreamingIterator.to_come l.lender
