use Rattle.std.proofs.Common.{◌≡◌, ◌≤◌, ◌-◌, ◌+◌, length}
use Rattle.avro_schema.specs.Number.{MovesForward}
use Rattle.avro_reference.specs.Skip.{skip}
use Rattle.avro_skip.proofs.Steps.{ItemsUnderway, FieldsUnderway, BlocksUnderway}
use Rattle.avro_skip.proofs.skip.+skips.Given as goal

abbrev pub invariant-skip_fields-loop-i : goal.invariant-skip_fields-loop-i
invariant-skip_fields-loop-i g l = record {
  same : g.A.ByteReader.identity l.cursor ≡ g.A.ByteReader.identity l.fn.cursor;
  forward : MovesForward (g.A.ByteReader.rest l.fn.cursor) (g.A.ByteReader.rest l.cursor);
  shorter : length (g.A.ByteReader.rest l.cursor) + l.i ≤ length (g.A.ByteReader.rest l.fn.cursor);
  underway : FieldsUnderway g.A.ByteReader.rest g.A.ByteReader.shown g.A.ByteReader.calls l.fields l.i l.fn.cursor l.cursor;
}

abbrev pub invariant-skip_items-loop : goal.invariant-skip_items-loop
invariant-skip_items-loop g l = record {
  same : g.A.ByteReader.identity l.cursor ≡ g.A.ByteReader.identity l.fn.cursor;
  forward : MovesForward (g.A.ByteReader.rest l.fn.cursor) (g.A.ByteReader.rest l.cursor);
  underway : ItemsUnderway g.A.ByteReader.rest g.A.ByteReader.shown g.A.ByteReader.calls (skip l.item) (l.count - l.counter) l.count l.fn.cursor l.cursor;
}

abbrev pub invariant-skip_blocks-loop-count : goal.invariant-skip_blocks-loop-count
invariant-skip_blocks-loop-count g l = record {
  same : g.A.ByteReader.identity l.cursor ≡ g.A.ByteReader.identity l.fn.cursor;
  forward : MovesForward (g.A.ByteReader.rest l.fn.cursor) (g.A.ByteReader.rest l.cursor);
  underway : BlocksUnderway g.A.ByteReader.rest g.A.ByteReader.shown g.A.ByteReader.calls (skip l.item) l.fn.cursor l.cursor;
}

abbrev pub decreases-skip_blocks-loop-count : goal.decreases-skip_blocks-loop-count
decreases-skip_blocks-loop-count g l = length (g.A.ByteReader.rest l.cursor)
