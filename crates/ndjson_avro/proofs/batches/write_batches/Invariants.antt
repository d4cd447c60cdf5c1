-- Whole batches were written so far.
use Rattle.std.proofs.Common.{◌≡◌, ◌≤◌}
use Rattle.ndjson_read.specs.FileReader.{byte_limit_of, source_of, state_of}
use Rattle.ndjson_avro.specs.BatchSteps.{IsOpen}
use Rattle.ndjson_avro.specs.Steps.{WrittenSoFar}
use Rattle.ndjson_avro.proofs.batches.write_batches.Given as goal

abbrev pub decreases-batches : goal.decreases-batches
decreases-batches g l = byte_limit_of l.reader

abbrev pub invariant-batches : goal.invariant-batches
invariant-batches g l = record {
  so_far : WrittenSoFar l.fn.encoder.row_type l.fn.encoder.root l.marker l.wanted (state_of g.S.Source.left g.S.Source.faults l.fn.reader) (state_of g.S.Source.left g.S.Source.faults l.reader) (g.K.Sink.held l.fn.sink) (g.K.Sink.held l.sink) l.count;
  open_reader : IsOpen l.reader;
  row_type : l.encoder.row_type ≡ l.fn.encoder.row_type;
  root : l.encoder.root ≡ l.fn.encoder.root;
  lines : l.encoder.lines ≡ l.fn.encoder.lines;
  plan : l.encoder.plan ≡ l.fn.encoder.plan;
  never_falls_sink : g.K.Sink.faults l.fn.sink ≤ g.K.Sink.faults l.sink;
  same : g.S.Source.identity (source_of l.reader) ≡ g.S.Source.identity (source_of l.fn.reader);
  same_sink : g.K.Sink.identity l.sink ≡ g.K.Sink.identity l.fn.sink;
}
