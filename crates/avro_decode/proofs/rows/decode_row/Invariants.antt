use Rattle.std.proofs.Common.{◌≡◌, ◌≤◌, All, length, map, drop}
use Rattle.arrow_builders.specs.MutableArrays.{builder_slots}
use Rattle.arrow_builders.specs.Shapes.{shape}
use Rattle.arrow_builders.specs.Tight.{IsTight}
use Rattle.avro_schema.specs.Number.{MovesForward}
use Rattle.avro_schema.specs.ValidBlock.{kept}
use Rattle.avro_reference.specs.Costs.{passed}
use Rattle.avro_decode.specs.Growth.{ChildrenGrow}
use Rattle.avro_decode.proofs.RowSteps.{RowSoFar}
use Rattle.avro_decode.proofs.rows.decode_row.Given as goal

abbrev pub invariant-loop-i : goal.invariant-loop-i
invariant-loop-i g l = record {
  same : g.C.ByteReader.identity l.cursor ≡ g.C.ByteReader.identity l.fn.cursor;
  shapes : map shape l.builders ≡ map shape l.fn.builders;
  tight : All IsTight l.builders;
  few : l.column ≤ l.i;
  within : l.column ≤ length l.fn.builders;
  left : drop l.column (kept l.avro_fields l.projection) ≡ kept (drop l.i l.avro_fields) (drop l.i l.projection);
  reads : RowSoFar g.C.ByteReader.rest g.C.ByteReader.shown g.C.ByteReader.calls l.fn.cursor l.cursor l.column l.i l.avro_fields l.projection (map builder_slots l.fn.builders) (map builder_slots l.builders);
  forward : MovesForward (g.C.ByteReader.rest l.fn.cursor) (g.C.ByteReader.rest l.cursor);
  grows : ChildrenGrow (passed (g.C.ByteReader.rest l.fn.cursor) (g.C.ByteReader.rest l.cursor)) (kept l.avro_fields l.projection) l.fn.builders l.builders;
}
