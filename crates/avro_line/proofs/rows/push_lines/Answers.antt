use Rattle.std.proofs.Common.{arith}
use Rattle.avro_line.proofs.RowLines.{rows_next, rows_ended}
use Rattle.avro_line.proofs.rows.push_lines.Goals as goal

pub loop-preserved : goal.loop-preserved
loop-preserved g c = rows_next c.args.avro_fields.now c.args.projection.now c.args.columns.now c.args.number_of_rows c.loop.counter _ _ _ _ _ _ c.loop-test.true c.loop.invariant c.in_ok-push_line.ensures

pub returns : goal.returns
returns g c = rows_ended c.args.avro_fields.now c.args.projection.now c.args.columns.now c.args.number_of_rows c.loop.counter _ _ _ _ (omega (arith, c.loop-test.false)) c.loop.invariant
