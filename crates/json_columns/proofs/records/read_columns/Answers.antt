use Rattle.std.proofs.Common.{ap, subst, ◌∙◌, ◌++◌}
use Rattle.std.proofs.lemmas.Result.{err_from_is_err_and}
use Rattle.json_flat.specs.Columns.{lent}
use Rattle.json_columns.specs.Faults.{TooManyFields}
use Rattle.json_columns.proofs.Counting.{always}
use Rattle.json_columns.proofs.RecordLaws.{no_lengths, rows_fault}
use Rattle.json_columns.proofs.records.read_columns.Goals as goal

pub returns-in_err-columns-clause-err : goal.returns-in_err-columns-clause-err
returns-in_err-columns-clause-err c =
    let p = err_from_is_err_and c.from_residual-in_err-columns.result c.from_residual-in_err-columns.ensures.1 in
    rw (p.1, p.2) (rows_fault c.args.fields.now c.args.rows.now (lent c.as_slice.result.now) _ (ap lent c.as_slice.ensures.value ∙ c.in_ok-lend_all.ensures.ok ∙ ap (λ l. lent l ++ c.args.rows.now) c.new-lent_rows.ensures.items) c.in_err-columns.ensures.err)

pub returns-clause-counted : goal.returns-clause-counted
returns-clause-counted c =
    always c.try_new.result (TooManyFields c.args.fields.now c.args.rows.now → ⊥)
    (subst (λ rows. TooManyFields c.args.fields.now rows → ⊥) (ap lent c.as_slice.ensures.value ∙ c.in_ok-lend_all.ensures.ok ∙ ap (λ l. lent l ++ c.args.rows.now) c.new-lent_rows.ensures.items) c.in_ok-columns.ensures.counted)

pub returns-clause-err : goal.returns-clause-err
returns-clause-err c = no_lengths c.args.fields.now (lent c.as_slice.result.now) c.args.rows.now c.in_ok-columns.columns.items c.try_new.result c.in_ok-columns.ensures.columns c.try_new.ensures.err
