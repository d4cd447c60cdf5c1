use Rattle.std.proofs.Common.{◌≡◌, ◌≤◌, ◌<◌, ◌-◌, ◌+◌, ℕ, false, length, map, drop, [], List}
use Rattle.arrow_core.specs.declared.slot.Slot.{Slot}
use Rattle.arrow_builders.specs.MutableArrays.{builder_slots}
use Rattle.arrow_builders.specs.Shapes.{shape}
use Rattle.avro_schema.specs.Number.{MovesForward}
use Rattle.avro_reference.specs.Read.{items, blocks, read}
use Rattle.avro_reference.specs.Listed.{read_fields_of}
use Rattle.avro_decode.specs.Decoding.{grown}
use Rattle.avro_reference.specs.Costs.{passed, CostsKept}
use Rattle.avro_decode.specs.Decoding.{all_blocks}
use Rattle.avro_decode.specs.Masks.{mask}
use Rattle.avro_decode.specs.Growth.{ChildrenGrow, PartTight}
use Rattle.avro_decode.proofs.Keeping.{KeepsSoFar}
use Rattle.avro_decode.proofs.decode.+decode.Given as goal

abbrev pub invariant-decode_blocks-loop-count : goal.invariant-decode_blocks-loop-count
invariant-decode_blocks-loop-count g l = record {
  keeps : KeepsSoFar g.C.ByteReader.rest g.C.ByteReader.shown g.C.ByteReader.calls g.C.ByteReader.identity (mask false l.item) l.fn.cursor l.cursor l.fn.child l.child;
  reads : (fuel : ℕ) × (length (g.C.ByteReader.rest l.cursor) < fuel) × (blocks (read l.item) fuel (builder_slots l.child) (g.C.ByteReader.rest l.cursor) ≡ all_blocks (read l.item) (builder_slots l.fn.child) (g.C.ByteReader.rest l.fn.cursor));
}

abbrev pub decreases-decode_blocks-loop-count : goal.decreases-decode_blocks-loop-count
decreases-decode_blocks-loop-count g l = length (g.C.ByteReader.rest l.cursor)

abbrev pub invariant-decode_nested_items-loop : goal.invariant-decode_nested_items-loop
invariant-decode_nested_items-loop g l = record {
  keeps : KeepsSoFar g.C.ByteReader.rest g.C.ByteReader.shown g.C.ByteReader.calls g.C.ByteReader.identity (mask false l.item) l.fn.cursor l.cursor l.fn.child l.child;
  reads : items (read l.item) (l.count - l.counter) (builder_slots l.child) (g.C.ByteReader.rest l.cursor) ≡ items (read l.item) l.count (builder_slots l.fn.child) (g.C.ByteReader.rest l.fn.cursor);
}

abbrev pub invariant-decode_fields-loop-i : goal.invariant-decode_fields-loop-i
invariant-decode_fields-loop-i g l = record {
  same : g.C.ByteReader.identity l.cursor ≡ g.C.ByteReader.identity l.fn.cursor;
  marks : l.records.marks ≡ l.fn.records.marks;
  shapes : map shape l.records.values.items ≡ map shape l.fn.records.values.items;
  tight : PartTight (length l.fn.records.marks.booleans) l.i l.records.values.items;
  forward : MovesForward (g.C.ByteReader.rest l.fn.cursor) (g.C.ByteReader.rest l.cursor);
  shorter : length (g.C.ByteReader.rest l.cursor) + l.i ≤ length (g.C.ByteReader.rest l.fn.cursor);
  grows : ChildrenGrow (passed (g.C.ByteReader.rest l.fn.cursor) (g.C.ByteReader.rest l.cursor)) l.fields l.fn.records.values.items l.records.values.items;
  costs : CostsKept g.C.ByteReader.rest g.C.ByteReader.shown g.C.ByteReader.calls l.fn.cursor l.cursor;
  reads : (row : List Slot) × (read_fields_of (drop l.i l.fields) row (g.C.ByteReader.rest l.cursor) ≡ read_fields_of l.fields [] (g.C.ByteReader.rest l.fn.cursor)) × (map builder_slots l.records.values.items ≡ grown (map builder_slots l.fn.records.values.items) row) × (length row ≡ l.i);
}
