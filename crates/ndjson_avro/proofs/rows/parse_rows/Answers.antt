use Rattle.std.proofs.Common.{◌≡◌, ◌∙◌, inr, subst}
use Rattle.json_tree.specs.Meaning.{IsJson}
use Rattle.ndjson_read.proofs.RowLemmas.{handed_on}
use Rattle.ndjson_avro.proofs.Parsing.{all_valued, first_without, value_pushed}
use Rattle.ndjson_avro.proofs.rows.parse_rows.Goals as goal

pub returns-in_err-value-clause-err : goal.returns-in_err-value-clause-err
returns-in_err-value-clause-err c =
    let same : c.as_bytes.result.now ≡ c.row-item.result = c.as_bytes.ensures.value ∙ c.as_str.ensures in
    handed_on _ _ c.from_residual-in_err-value.result c.from_residual-in_err-value.ensures.1
    (inr (first_without c.args.rows.now c.loop-row.row-index c.row-item.result c.as_bytes.result.now c.loop-row.values.items _ c.loop-row-test.true c.row-item.is same c.loop-row.invariant c.in_err-value.ensures.err))

pub loop-row-preserved : goal.loop-row-preserved
loop-row-preserved c =
    let same : c.as_bytes.result.now ≡ c.row-item.result = c.as_bytes.ensures.value ∙ c.as_str.ensures in
    value_pushed c.args.rows.now c.loop-row.row-index c.row-item.result c.loop-row.values.items _ c.in_ok-value.value c.loop-row-test.true c.row-item.is c.loop-row.invariant (subst (λ text. IsJson c.in_ok-value.value text) same c.in_ok-value.ensures.ok) c.in_ok-push.ensures.items

pub returns-clause-ok : goal.returns-clause-ok
returns-clause-ok c = all_valued c.args.rows.now c.loop-row.row-index c.loop-row.values.items c.loop-row-test.false c.loop-row.invariant
