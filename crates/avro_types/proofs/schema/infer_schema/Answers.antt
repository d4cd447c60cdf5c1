use Rattle.std.proofs.Common.{◌∙◌, arith}
use Rattle.std.proofs.lemmas.Result.{err_from_is_err_and}
use Rattle.avro_schema.specs.Inferred.{own_doc}
use Rattle.avro_types.proofs.Inferring.{column_is, columns_next, columns_not, refused_map, some_in_root, none_in_fields}
use Rattle.avro_types.proofs.RootColumns.{memory_alone, typed_columns}
use Rattle.avro_types.proofs.schema.infer_schema.Goals as goal

pub returns-in_err-data_type-clause-err : goal.returns-in_err-data_type-clause-err
returns-in_err-data_type-clause-err c =
    let inv = c.loop-field.invariant in
    let p = err_from_is_err_and c.from_residual.result c.from_residual.ensures.1 in
    rw (p.1, p.2) (refused_map _ _ _ (λ h. some_in_root c.args.root.now _ inv.1 (columns_not (λ a. a.doc) _ c.loop-field.field-index c.field-item.result c.loop-field-test.true c.field-item.is h)) c.in_err-data_type.ensures.err)

pub loop-field-preserved : goal.loop-field-preserved
loop-field-preserved c =
    let inv = c.loop-field.invariant in
    let e = c.in_ok-data_type.ensures in
    let f = rw c.own_doc-doc.ensures at c.in_ok-named_field.ensures.ok in
    let is = f ∙ column_is _ _ c.field-item.result.schema c.in_ok-data_type.data_type c.in_ok-data_type.is_nullable e.nullable in
    (rw c.in_ok-push.ensures.items (columns_next own_doc _ c.loop-field.field-index _ c.field-item.result _ _ c.loop-field-test.true c.field-item.is inv.0 e.data_type is), inv.1)

pub returns-clause-ok : goal.returns-clause-ok
returns-clause-ok c =
    let inv = c.loop-field.invariant in
    none_in_fields c.args.root.now _ c.loop-field.field-index _ (omega (arith, c.loop-field-test.false)) inv.1 inv.0

pub returns-in_err-data_type-clause-carried : goal.returns-in_err-data_type-clause-carried
returns-in_err-data_type-clause-carried c = memory_alone c.args.root.now _ (returns-in_err-data_type-clause-err c)

pub returns-clause-typed : goal.returns-clause-typed
returns-clause-typed c =
    let inv = c.loop-field.invariant in
    rw c.from_vec.ensures (typed_columns c.args.root.now _ c.loop-field.field-index _ (omega (arith, c.loop-field-test.false)) inv.1 inv.0)
