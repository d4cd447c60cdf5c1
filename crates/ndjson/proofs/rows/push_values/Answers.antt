use Rattle.std.proofs.Common.{◌∙◌, subst}
use Rattle.std.proofs.lemmas.Result.{err_from_is_err_and}
use Rattle.json_tree.specs.Meaning.{IsJson}
use Rattle.ndjson_read.specs.Inference.{NoValue}
use Rattle.ndjson.proofs.ValueLemmas.{fails_at, stand_more}
use Rattle.ndjson.proofs.rows.push_values.Goals as goal

pub loop-row-preserved : goal.loop-row-preserved
loop-row-preserved c =
    let v = c.in_ok-push_value.ensures.value in
    let bytes = c.as_bytes.ensures.value ∙ c.as_str.ensures in
    stand_more c.args.rows.now c.loop-row.row-index c.row-item.result _ _ c.loop-row-test.true c.row-item.is c.loop-row.invariant (v.0, subst (IsJson v.0) bytes v.1, v.2)

pub returns-in_err-push_value-clause-err : goal.returns-in_err-push_value-clause-err
returns-in_err-push_value-clause-err c =
    let p = err_from_is_err_and c.from_residual.result c.from_residual.ensures.1 in
    let bytes = c.as_bytes.ensures.value ∙ c.as_str.ensures in
    rw (p.1, p.2) (fails_at c.args.rows.now c.loop-row.row-index c.row-item.result _ _ c.loop-row-test.true c.row-item.is c.loop-row.invariant
    (subst (λ z. NoValue z c.in_err-push_value.field-0.0) bytes c.in_err-push_value.ensures.err))
