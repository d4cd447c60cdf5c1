-- Each turn shows a kept field's value, or skips another's.
use Rattle.std.proofs.Common.{arith}
use Rattle.std.proofs.lemmas.Bool.Decides.{nat_tests}
use Rattle.avro_line.proofs.RowLines.{next_kept, next_skipped, row_ended}
use Rattle.avro_line.proofs.rows.push_line.Goals as goal
use Rattle.avro_line.proofs.rows.push_line.Goals.{then-projection-i+in_ok-column+in_ok-push_key+in_ok-push_value, else-projection-i+in_ok-skip_field}

pub loop-i-preserved : goal.loop-i-preserved
loop-i-preserved g c =
    elim c.if-projection-i.branch [
      | then-projection-i+in_ok-column+in_ok-push_key+in_ok-push_value w ↦
          rw (w.out-is, w.cursor-is, w.rest-is)
          (next_kept c.args.avro_fields.now c.args.projection.now c.args.columns.now c.loop-i.i c.index-avro_fields-i.result _ _ _ _ _ c.loop-i-test.true c.requires.lengths c.index-avro_fields-i.is c.loop-i.rest.now w.in_ok-column.column.now w.in_ok-column.within.now w.in_ok-column.after.now _ _ w.if-projection-i.true c.loop-i.invariant w.in_ok-column.ensures w.in_ok-push_key.ensures.ok w.in_ok-push_value.ensures)
      | else-projection-i+in_ok-skip_field w ↦
          rw (w.out-is, w.cursor-is, w.rest-is)
          (next_skipped c.args.avro_fields.now c.args.projection.now c.args.columns.now c.loop-i.i c.index-avro_fields-i.result _ _ _ _ _ c.loop-i-test.true c.requires.lengths c.index-avro_fields-i.is c.loop-i.rest.now w.if-projection-i.false c.loop-i.invariant w.in_ok-skip_field.ensures)
    ]

pub returns : goal.returns
returns g c =
    row_ended c.args.avro_fields.now c.args.projection.now c.args.columns.now c.loop-i.i c.loop-i.rest.now _ _ _ _ _ (λ e. absurd (grind (arith, nat_tests, e, c.is_empty.ensures, c.if-is_empty.false))) c.requires.lengths (omega (arith, c.loop-i-test.false)) c.loop-i.invariant c.in_ok-push.ensures.ok
