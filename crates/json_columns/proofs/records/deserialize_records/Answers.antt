use Rattle.std.proofs.Common.{ap, sym, ◌∙◌, subst, IfErr, IfOk}
use Rattle.json_tree.specs.declared.value.Value.TheVariants as variant
use Rattle.json_columns.specs.Records.{IsRecordsRefusal, IsTableOf}
use Rattle.json_columns.proofs.RecordLaws.{rows_refusal, table}
use Rattle.json_columns.proofs.records.deserialize_records.Goals as goal

pub returns-in-Array-clause-table : goal.returns-in-Array-clause-table
returns-in-Array-clause-table c =
    subst (λ fields. IfOk c.read_rows.result (IsTableOf c.args.json.now fields)) c.as_slice-fields.ensures
    (table c.args.json.now c.as_slice.result.now c.as_slice-fields.result.now (c.in_ok-check_fields.ensures.distinct, c.in_ok-check_fields.ensures.readable) (c.in-Array.is ∙ ap variant.Array (sym c.as_slice.ensures)) c.read_rows.result c.read_rows.ensures.rows c.read_rows.ensures.columns
    c.read_rows.ensures.counted)

pub returns-in-Array-clause-err : goal.returns-in-Array-clause-err
returns-in-Array-clause-err c =
    subst (λ fields. IfErr c.read_rows.result (IsRecordsRefusal c.args.json.now fields)) c.as_slice-fields.ensures
    (rows_refusal c.args.json.now c.as_slice.result.now c.as_slice-fields.result.now (c.in_ok-check_fields.ensures.distinct, c.in_ok-check_fields.ensures.readable) (c.in-Array.is ∙ ap variant.Array (sym c.as_slice.ensures)) c.read_rows.result c.read_rows.ensures.err)
