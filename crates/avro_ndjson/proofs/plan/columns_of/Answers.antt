use Rattle.std.proofs.Common.{arith}
use Rattle.json_text.proofs.ColumnLemmas.{one_more_field}
use Rattle.avro_ndjson.proofs.plan.columns_of.Goals as goal

pub loop-field-preserved : goal.loop-field-preserved
loop-field-preserved c =
    one_more_field c.args.fields.now c.loop-field.field-index c.field-item.result _ c.loop-field.columns.items _ (omega arith) c.field-item.is c.as_str.ensures c.loop-field.invariant c.in_ok-push_column.ensures.ok
