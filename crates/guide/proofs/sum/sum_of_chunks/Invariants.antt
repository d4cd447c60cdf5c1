use Rattle.std.proofs.Common.{◌≡◌}
use Rattle.avro_read.specs.Reader.{projected_of, marker_of, limit_of, state_of, IsOpen}
use Rattle.guide.specs.Sum.{SumsSoFar}
use Rattle.guide.proofs.sum.sum_of_chunks.Given as goal

abbrev pub decreases-loop-chunk : goal.decreases-loop-chunk
decreases-loop-chunk g l = limit_of l.reader

-- the longs of the blocks that were taken are summed
abbrev pub invariant-loop-chunk : goal.invariant-loop-chunk
invariant-loop-chunk g l = record {
  open_reader : IsOpen l.reader;
  projected : projected_of l.reader ≡ projected_of l.fn.reader;
  marker : marker_of l.reader ≡ marker_of l.fn.reader;
  so_far : SumsSoFar (projected_of l.fn.reader) (marker_of l.fn.reader) (state_of g.S.Source.left g.S.Source.faults l.fn.reader) (state_of g.S.Source.left g.S.Source.faults l.reader) l.sum;
}
