use Rattle.std.proofs.Common.{inl, inr, sym, subst, List}
use Rattle.std.specs.List.{AllZip}
use Rattle.json_tree.specs.Meaning.{IsJson}
use Rattle.json_tree.specs.Tree.{Json}
use Rattle.ndjson_read.proofs.RowLemmas.{handed_on}
use Rattle.ndjson_avro.proofs.rows.read_trees.Goals as goal

pub returns-in_err-parsed-clause-err : goal.returns-in_err-parsed-clause-err
returns-in_err-parsed-clause-err c = handed_on _ _ c.from_residual.result c.from_residual.ensures.1 (inl c.in_err-parsed.ensures.err)

pub returns-in_err-check_objects-clause-err : goal.returns-in_err-check_objects-clause-err
returns-in_err-check_objects-clause-err c =
    let have = subst (λ (vs : List Json). AllZip IsJson vs c.args.rows.now) (sym c.as_slice-values.ensures.value) c.in_ok-parsed.ensures.ok in
    handed_on _ _ c.from_residual-in_err-check_objects.result c.from_residual-in_err-check_objects.ensures.1 (inr (c.as_slice-values.result.now, have, inl c.in_err-check_objects.ensures))

pub returns-in_err-array-clause-err : goal.returns-in_err-array-clause-err
returns-in_err-array-clause-err c =
    let have = subst (λ (vs : List Json). AllZip IsJson vs c.args.rows.now) (sym c.as_slice-values.ensures.value) c.in_ok-parsed.ensures.ok in
    handed_on _ _ c.from_residual-in_err-array.result c.from_residual-in_err-array.ensures.1 (inr (c.as_slice-values.result.now, have, inr (c.in_ok-check_objects.ensures, c.in_err-array.ensures.err)))

pub returns-clause-ok : goal.returns-clause-ok
returns-clause-ok c = record {
  values = c.as_slice-values.result.now;
  have = subst (λ (vs : List Json). AllZip IsJson vs c.args.rows.now) (sym c.as_slice-values.ensures.value) c.in_ok-parsed.ensures.ok;
  objects = c.in_ok-check_objects.ensures;
  meant = c.in_ok-array.ensures.slots;
}
