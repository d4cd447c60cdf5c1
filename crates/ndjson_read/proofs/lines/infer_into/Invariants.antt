use Rattle.std.proofs.Common.{◌≡◌, ◌+◌, List, None, cond}
use Rattle.json_tree.specs.declared.value.Value.{Value}
use Rattle.json_infer.specs.RowsSeen.{StandsFor}
use Rattle.ndjson_read.specs.FileReader.{source_of, batch_of, limit_of, byte_limit_of, failure_of, state_of}
use Rattle.ndjson_read.specs.SoFar.{AddedSoFar}
use Rattle.ndjson_read.proofs.lines.infer_into.Given as goal

abbrev pub invariant-loop-more : goal.invariant-loop-more
invariant-loop-more g l = record {
  so_far : (values : List Value) × AddedSoFar (limit_of l.fn.reader) (state_of g.S.Source.left g.S.Source.faults l.fn.reader) (state_of g.S.Source.left g.S.Source.faults l.reader) (limit_of l.reader) values l.more
      × StandsFor l.types values;
  open_reader : failure_of l.reader ≡ None;
  batch : batch_of l.reader ≡ 1;
  same : g.S.Source.identity (source_of l.reader) ≡ g.S.Source.identity (source_of l.fn.reader);
}

abbrev pub decreases-loop-more : goal.decreases-loop-more
decreases-loop-more g l = cond l.more (byte_limit_of l.reader + 1) 0
