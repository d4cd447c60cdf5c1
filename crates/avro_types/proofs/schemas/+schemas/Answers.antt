-- Each column more is one field more, and a column without a schema leaves all without.
use Rattle.std.proofs.Common.{◌∙◌, Some, sym, ap, arith}
use Rattle.std.proofs.lemmas.Result.{err_from_is_err_and}
use Rattle.avro_types.proofs.ByFields.{list_schema, large_list_schema, list_structs, large_list_structs, struct_schema_is, struct_structs}
use Rattle.avro_types.proofs.Columns.{one_more, more_structs, all_done, all_structs, missing, start, refused, column_missing, array_missing, struct_told, struct_missing}
use Rattle.avro_types.proofs.schemas.+schemas.Goals as goal

pub columns_fields-returns-in_err-schema-clause-err : goal.columns_fields-returns-in_err-schema-clause-err
columns_fields-returns-in_err-schema-clause-err t c =
    let inv = c.loop-column.invariant in
    let p = err_from_is_err_and c.from_residual.result c.from_residual.ensures.1 in
    rw (p.1, p.2) (refused _ _ _ (missing _ _ _ _ c.loop-column.column-index c.column-item.result _ c.loop-column-test.true c.column-item.is inv.fields) c.in_err-schema.ensures.err)

pub columns_fields-loop-column-preserved : goal.columns_fields-loop-column-preserved
columns_fields-loop-column-preserved t c =
    let inv = c.loop-column.invariant in
    let e = c.in_ok-schema.ensures in
    record {
      fields = rw c.in_ok-push.ensures.items (one_more _ _ _ _ _ c.loop-column.column-index c.column-item.result _ _ _ c.loop-column-test.true c.column-item.is inv.fields e.schema e.structs c.in_ok-named_field.ensures.field);
      structs = more_structs _ c.loop-column.column-index _ _ _ c.column-item.result c.loop-column-test.true c.column-item.is inv.structs e.structs;
    }

pub columns_fields-returns-clause-fields : goal.columns_fields-returns-clause-fields
columns_fields-returns-clause-fields t c =
    let inv = c.loop-column.invariant in
    sym (start _) ∙ all_done _ _ _ _ c.loop-column.column-index _ (omega (arith, c.loop-column-test.false)) inv.fields ∙ ap Some (sym c.from_vec.ensures)

pub columns_fields-returns-clause-structs : goal.columns_fields-returns-clause-structs
columns_fields-returns-clause-structs t c =
    let inv = c.loop-column.invariant in
    all_structs _ c.loop-column.column-index _ _ (omega (arith, c.loop-column-test.false)) inv.structs

pub column_schema-returns-in_err-schema-clause-err : goal.column_schema-returns-in_err-schema-clause-err
column_schema-returns-in_err-schema-clause-err t c =
    let p = err_from_is_err_and c.from_residual.result c.from_residual.ensures.1 in
    rw (p.1, p.2) (refused _ _ _ (column_missing c.args.null_first c.args.structs.now c.args.column.now) c.in_err-schema.ensures.err)

pub array_schema-returns-in_err-item-clause-err : goal.array_schema-returns-in_err-item-clause-err
array_schema-returns-in_err-item-clause-err t c =
    let p = err_from_is_err_and c.from_residual.result c.from_residual.ensures.1 in
    rw (p.1, p.2) (refused _ _ _ (array_missing c.args.null_first c.args.structs.now c.args.item.now) c.in_err-item.ensures.err)

pub struct_schema-returns-in_err-fields-clause-err : goal.struct_schema-returns-in_err-fields-clause-err
struct_schema-returns-in_err-fields-clause-err t c =
    let p = err_from_is_err_and c.from_residual-in_err-fields.result c.from_residual-in_err-fields.ensures.1 in
    rw (p.1, p.2) (refused _ _ _ (λ h. struct_missing c.args.null_first c.args.structs.now c.args.fields.now (rw c.in_ok-name.ensures.count at h)) c.in_err-fields.ensures.err)

pub type_schema-returns-in-List-clause-schema : goal.type_schema-returns-in-List-clause-schema
type_schema-returns-in-List-clause-schema t c = rw (c.in-List.is, list_schema c.args.null_first c.args.structs.now c.in-List.item) (rw c.get.ensures at c.array_schema.ensures.schema)

pub type_schema-returns-in-List-clause-structs : goal.type_schema-returns-in-List-clause-structs
type_schema-returns-in-List-clause-structs t c = rw (c.in-List.is, list_structs c.in-List.item) (rw c.get.ensures at c.array_schema.ensures.structs)

pub type_schema-returns-in-List-clause-err : goal.type_schema-returns-in-List-clause-err
type_schema-returns-in-List-clause-err t c = rw (c.in-List.is, list_schema c.args.null_first c.args.structs.now c.in-List.item) (rw c.get.ensures at c.array_schema.ensures.err)

pub type_schema-returns-in-LargeList-clause-schema : goal.type_schema-returns-in-LargeList-clause-schema
type_schema-returns-in-LargeList-clause-schema t c = rw (c.in-LargeList.is, large_list_schema c.args.null_first c.args.structs.now c.in-LargeList.item) (rw c.get-in-LargeList.ensures at c.array_schema-in-LargeList.ensures.schema)

pub type_schema-returns-in-LargeList-clause-structs : goal.type_schema-returns-in-LargeList-clause-structs
type_schema-returns-in-LargeList-clause-structs t c = rw (c.in-LargeList.is, large_list_structs c.in-LargeList.item) (rw c.get-in-LargeList.ensures at c.array_schema-in-LargeList.ensures.structs)

pub type_schema-returns-in-LargeList-clause-err : goal.type_schema-returns-in-LargeList-clause-err
type_schema-returns-in-LargeList-clause-err t c = rw (c.in-LargeList.is, large_list_schema c.args.null_first c.args.structs.now c.in-LargeList.item) (rw c.get-in-LargeList.ensures at c.array_schema-in-LargeList.ensures.err)

pub type_schema-returns-in-Struct-clause-schema : goal.type_schema-returns-in-Struct-clause-schema
type_schema-returns-in-Struct-clause-schema t c = rw (c.in-Struct.is, struct_schema_is c.args.null_first c.args.structs.now c.in-Struct.fields) (rw c.as_slice.ensures at c.struct_schema.ensures.schema)

pub type_schema-returns-in-Struct-clause-structs : goal.type_schema-returns-in-Struct-clause-structs
type_schema-returns-in-Struct-clause-structs t c = rw (c.in-Struct.is, struct_structs c.in-Struct.fields) (rw c.as_slice.ensures at c.struct_schema.ensures.structs)

pub type_schema-returns-in-Struct-clause-err : goal.type_schema-returns-in-Struct-clause-err
type_schema-returns-in-Struct-clause-err t c = rw (c.in-Struct.is, struct_schema_is c.args.null_first c.args.structs.now c.in-Struct.fields) (rw c.as_slice.ensures at c.struct_schema.ensures.err)

pub struct_schema-returns-clause-schema : goal.struct_schema-returns-clause-schema
struct_schema-returns-clause-schema t c =
    struct_told c.args.null_first c.args.structs.now _ c.args.fields.now _ _ c.in_ok-name.ensures.count c.in_ok-fields.ensures.fields c.in_ok-name.ensures.name

pub struct_schema-returns-clause-structs : goal.struct_schema-returns-clause-structs
struct_schema-returns-clause-structs t c = omega (arith, c.in_ok-name.ensures.count, c.in_ok-fields.ensures.structs)
