-- The blocks so far were taken and counted; each took a byte, and states no more rows than 64 bits hold.
use Rattle.std.proofs.Common.{◌≡◌, ◌+◌, ◌*◌, ◌≤◌}
use Rattle.avro_container.specs.BlockReader.{source_of, marker_of, limit_of, IsOpen, state_of}
use Rattle.avro_inspect.proofs.Steps.{CountedSoFar}
use Rattle.avro_inspect.proofs.count.count_blocks.Given as goal

abbrev pub decreases-loop-block : goal.decreases-loop-block
decreases-loop-block g l = limit_of l.reader

abbrev pub invariant-loop-block : goal.invariant-loop-block
invariant-loop-block g l = record {
  open_reader : IsOpen l.reader;
  marker : marker_of l.reader ≡ marker_of l.fn.reader;
  so_far : CountedSoFar (marker_of l.fn.reader) (state_of g.S.Source.left g.S.Source.faults l.fn.reader) (state_of g.S.Source.left g.S.Source.faults l.reader) l.rows l.blocks;
  few : l.blocks + limit_of l.reader ≤ limit_of l.fn.reader;
  few_rows : l.rows ≤ 18446744073709551615 * l.blocks;
  never_falls : g.S.Source.faults (source_of l.fn.reader) ≤ g.S.Source.faults (source_of l.reader);
  same : g.S.Source.identity (source_of l.reader) ≡ g.S.Source.identity (source_of l.fn.reader);
}
