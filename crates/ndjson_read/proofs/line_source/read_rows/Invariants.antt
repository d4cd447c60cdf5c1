use Rattle.std.proofs.Common.{◌≡◌, ◌≤◌, ◌+◌, cond, take}
use Rattle.ndjson_read.specs.OneLine.{state_of, RowsSoFar}
use Rattle.ndjson_read.proofs.line_source.read_rows.Given as goal

abbrev pub invariant-loop-more : goal.invariant-loop-more
invariant-loop-more g l = record {
  rows : RowsSoFar l.wanted (state_of g.S.Source.left g.S.Source.faults l.fn.source) (state_of g.S.Source.left g.S.Source.faults l.source) (take l.n l.rows) l.more;
  within : l.n ≤ l.wanted;
  same : g.S.Source.identity l.source.source ≡ g.S.Source.identity l.fn.source.source;
}

abbrev pub decreases-loop-more : goal.decreases-loop-more
decreases-loop-more g l = cond l.more (l.source.limit + 1) 0
