-- Rows were taken so far, no more than are wanted.
use Rattle.std.proofs.Common.{◌≡◌}
use Rattle.ndjson_read.specs.FileReader.{byte_limit_of, source_of, state_of}
use Rattle.ndjson_avro.specs.BatchSteps.{BatchSoFar, IsOpen}
use Rattle.ndjson_avro.proofs.batch.read_rows.Given as goal

abbrev pub decreases-rows : goal.decreases-rows
decreases-rows g l = byte_limit_of l.reader

abbrev pub invariant-rows : goal.invariant-rows
invariant-rows g l = record {
  so_far : BatchSoFar l.wanted (state_of g.S.Source.left g.S.Source.faults l.fn.reader) (state_of g.S.Source.left g.S.Source.faults l.reader) l.batch.rows.items;
  open_reader : IsOpen l.reader;
  same : g.S.Source.identity (source_of l.reader) ≡ g.S.Source.identity (source_of l.fn.reader);
}
