use Rattle.std.proofs.Common.{◌≡◌, ◌-◌, All, map}
use Rattle.arrow_builders.specs.MutableArrays.{builder_slots}
use Rattle.arrow_builders.specs.Shapes.{shape}
use Rattle.arrow_builders.specs.Tight.{IsTight}
use Rattle.avro_schema.specs.Number.{MovesForward}
use Rattle.avro_schema.specs.ValidBlock.{kept}
use Rattle.avro_reference.specs.Costs.{passed}
use Rattle.avro_decode.specs.Growth.{ChildrenGrow}
use Rattle.avro_decode.proofs.RowSteps.{RowsSoFar}
use Rattle.avro_decode.proofs.kept_rows.decode_kept_rows.Given as goal

abbrev pub invariant-loop : goal.invariant-loop
invariant-loop g l = record {
  same : g.C.ByteReader.identity l.cursor ≡ g.C.ByteReader.identity l.fn.cursor;
  shapes : map shape l.builders ≡ map shape l.fn.builders;
  tight : All IsTight l.builders;
  reads : RowsSoFar g.C.ByteReader.rest g.C.ByteReader.shown g.C.ByteReader.calls l.fn.cursor l.cursor l.rows (l.rows - l.counter) l.plan.avro_fields.now l.plan.projection.now (map builder_slots l.fn.builders) (map builder_slots l.builders);
  forward : MovesForward (g.C.ByteReader.rest l.fn.cursor) (g.C.ByteReader.rest l.cursor);
  grows : ChildrenGrow (passed (g.C.ByteReader.rest l.fn.cursor) (g.C.ByteReader.rest l.cursor)) (kept l.plan.avro_fields.now l.plan.projection.now) l.fn.builders l.builders;
}
