-- Whole blocks were written so far, and there were no more rows than bytes.
use Rattle.std.proofs.Common.{◌≡◌, ◌+◌, ◌≤◌}
use Rattle.avro_container.specs.BlockReader.{source_of, marker_of, limit_of, IsOpen, state_of}
use Rattle.avro_container.specs.Written.{WritesBlocks}
use Rattle.avro_container.proofs.blocks.write_blocks.Given as goal

abbrev pub decreases-loop-buffers : goal.decreases-loop-buffers
decreases-loop-buffers g l = limit_of l.reader

abbrev pub invariant-loop-buffers : goal.invariant-loop-buffers
invariant-loop-buffers g l = record {
  open_reader : IsOpen l.reader;
  encoder : l.encoder ≡ l.fn.encoder;
  marker : marker_of l.reader ≡ marker_of l.fn.reader;
  so_far : WritesBlocks (g.E.EncodesBlocks.shows l.fn.encoder) (marker_of l.fn.reader) (state_of g.S.Source.left g.S.Source.faults l.fn.reader) (state_of g.S.Source.left g.S.Source.faults l.reader) (g.K.Sink.held l.fn.sink) (g.K.Sink.held l.sink) l.count;
  few : l.count + limit_of l.reader ≤ limit_of l.fn.reader;
  never_falls : g.S.Source.faults (source_of l.fn.reader) ≤ g.S.Source.faults (source_of l.reader);
  never_falls_sink : g.K.Sink.faults l.fn.sink ≤ g.K.Sink.faults l.sink;
  same : g.S.Source.identity (source_of l.reader) ≡ g.S.Source.identity (source_of l.fn.reader);
  same_sink : g.K.Sink.identity l.sink ≡ g.K.Sink.identity l.fn.sink;
}
