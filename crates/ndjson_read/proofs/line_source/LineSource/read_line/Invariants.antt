use Rattle.std.proofs.Common.{◌≡◌}
use Rattle.ndjson_read.specs.OneLine.{state_of, IsPart}
use Rattle.ndjson_read.specs.Reading.{Takes}
use Rattle.ndjson_read.proofs.line_source.LineSource.read_line.Given as goal

abbrev pub invariant-loop-byte : goal.invariant-loop-byte
invariant-loop-byte g l = record {
  takes : Takes (state_of g.S.Source.left g.S.Source.faults l.fn.self) (state_of g.S.Source.left g.S.Source.faults l.self) l.line.items;
  is_part : IsPart l.line.items;
  lines : l.self.lines ≡ l.fn.self.lines;
  same : g.S.Source.identity l.self.source ≡ g.S.Source.identity l.fn.self.source;
}

abbrev pub decreases-loop-byte : goal.decreases-loop-byte
decreases-loop-byte g l = l.self.limit
