use Rattle.std.proofs.Common.{◌∙◌, sym}
use Rattle.std.proofs.lemmas.Result.{err_from_is_err_and}
use Rattle.avro_types.proofs.Inferring.{column_is, columns_next, columns_not, refused_map, union_is, record_none, record_some, array_none, array_some}
use Rattle.avro_types.proofs.schema.+infer.Goals as goal

pub infer_column-returns-in_err-infer_union-in-Union-clause-err :
    goal.infer_column-returns-in_err-infer_union-in-Union-clause-err
infer_column-returns-in_err-infer_union-in-Union-clause-err t c =
    let p = err_from_is_err_and c.from_residual.result c.from_residual.ensures.1 in
    rw (p.1, p.2, c.in-Union.is, union_is c.in-Union.members) c.in_err-infer_union-in-Union.ensures.err

pub infer_column-returns-in_err-fields-in-Record-clause-err :
    goal.infer_column-returns-in_err-fields-in-Record-clause-err
infer_column-returns-in_err-fields-in-Record-clause-err t c =
    let r = c.from_residual-in_err-fields-in-Record in
    let p = err_from_is_err_and r.result r.ensures.1 in
    rw (p.1, p.2, c.in-Record.is) (refused_map _ _ _ (record_none c.in-Record.record) c.in_err-fields-in-Record.ensures.err)

pub infer_column-returns-in_err-data_type-in-Array-clause-err :
    goal.infer_column-returns-in_err-data_type-in-Array-clause-err
infer_column-returns-in_err-data_type-in-Array-clause-err t c =
    let r = c.from_residual-in_err-data_type-in-Array in
    let p = err_from_is_err_and r.result r.ensures.1 in
    rw (p.1, p.2, c.in-Array.is) (refused_map _ _ _ (array_none c.in-Array.item) (rw c.get.ensures at c.in_err-data_type-in-Array.ensures.err))

pub infer_column-returns-in_ok-infer_union-in-Union-clause-data_type :
    goal.infer_column-returns-in_ok-infer_union-in-Union-clause-data_type
infer_column-returns-in_ok-infer_union-in-Union-clause-data_type t c =
    rw (c.in-Union.is, union_is c.in-Union.members) c.in_ok-infer_union-in-Union.ensures.data_type

pub infer_column-returns-in_ok-fields-in-Record-clause-data_type :
    goal.infer_column-returns-in_ok-fields-in-Record-clause-data_type
infer_column-returns-in_ok-fields-in-Record-clause-data_type t c =
    rw c.in-Record.is (record_some c.in-Record.record _ c.in_ok-fields-in-Record.ensures.fields)

pub infer_column-returns-in_ok-new-in-Array-clause-data_type :
    goal.infer_column-returns-in_ok-new-in-Array-clause-data_type
infer_column-returns-in_ok-new-in-Array-clause-data_type t c =
    let e = c.in_ok-data_type-in-Array.ensures in
    let f = rw c.in_ok-name-in-Array.ensures.copy at c.new-field.ensures in
    rw c.in-Array.is (array_some c.in-Array.item _ _ _ (rw c.get.ensures at e.data_type) (rw c.get.ensures at e.nullable) (c.in_ok-new-in-Array.ensures.holds ∙ f))

pub infer_fields-returns-in_err-data_type-clause-err :
    goal.infer_fields-returns-in_err-data_type-clause-err
infer_fields-returns-in_err-data_type-clause-err t c =
    let inv = c.loop-field.invariant in
    let p = err_from_is_err_and c.from_residual.result c.from_residual.ensures.1 in
    rw (p.1, p.2, sym inv.1) (refused_map _ _ _ (columns_not (λ a. a.doc) _ c.loop-field.field-index c.field-item.result c.loop-field-test.true c.field-item.is) c.in_err-data_type.ensures.err)

pub infer_fields-loop-field-preserved : goal.infer_fields-loop-field-preserved
infer_fields-loop-field-preserved t c =
    let inv = c.loop-field.invariant in
    let e = c.in_ok-data_type.ensures in
    let f = rw c.as_ref-doc.ensures.value at c.in_ok-named_field.ensures.ok in
    let is = f ∙ column_is _ _ c.field-item.result.schema c.in_ok-data_type.data_type c.in_ok-data_type.is_nullable e.nullable in
    (rw c.in_ok-push.ensures.items (columns_next (λ a. a.doc) _ c.loop-field.field-index _ c.field-item.result _ _ c.loop-field-test.true c.field-item.is inv.0 e.data_type is), inv.1)
