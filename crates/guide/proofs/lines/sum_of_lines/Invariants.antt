use Rattle.std.proofs.Common.{◌≡◌, ℕ, List, Some, None}
use Rattle.ndjson_read.specs.FileReader.{source_of, batch_of, limit_of, byte_limit_of, failure_of}
use Rattle.guide.proofs.Batches.{SumsSoFar}
use Rattle.guide.proofs.lines.sum_of_lines.Given as goal

abbrev pub decreases-loop-lines : goal.decreases-loop-lines
decreases-loop-lines g l = byte_limit_of l.lines

-- the rows that were read are summed
abbrev pub invariant-loop-lines : goal.invariant-loop-lines
invariant-loop-lines g l = record {
  open_reader : failure_of l.lines ≡ None;
  batch : batch_of l.lines ≡ 1000;
  unlimited : limit_of l.lines ≡ None;
  so_far : (bytes : List ℕ) → g.S.Source.left l.fn.lines ≡ Some bytes → SumsSoFar l.row_type l.place bytes (g.S.Source.left (source_of l.lines)) l.sum;
}
