use Rattle.std.proofs.Common.{get_or, true, refl, sym, subst, arith}
use Rattle.std.proofs.lemmas.Bool.{false≢true}
use Rattle.arrow_core.specs.declared.types.Field.{Field}
use Rattle.avro_schema.specs.Types.{HasColumnType}
use Rattle.avro_types.proofs.ColumnTypes.{of_array, of_union, of_record, of_struct, of_list, of_large_list, zip_from, zip_at, zip_length, zip_next}
use Rattle.avro_types.proofs.types.+types.Goals as goal

pub has_type-returns-in-Record : goal.has_type-returns-in-Record
has_type-returns-in-Record t c =
    of_record c.args.schema.now c.has_record_type.result c.args.data_type.now c.in-Record.record c.as_slice.result.now c.in-Record.is c.as_slice.ensures c.has_record_type.ensures

pub has_type-returns-in-Array : goal.has_type-returns-in-Array
has_type-returns-in-Array t c =
    of_array c.args.schema.now c.has_list_type.result c.args.data_type.now c.in-Array.item c.get.result.now c.in-Array.is c.get.ensures c.has_list_type.ensures

pub has_type-returns-in-Union : goal.has_type-returns-in-Union
has_type-returns-in-Union t c =
    of_union c.args.schema.now c.has_member_type.result c.args.data_type.now c.in-Union.members c.as_slice-in-Union.result.now c.in-Union.is c.as_slice-in-Union.ensures c.has_member_type.ensures

pub has_record_type-returns-in-Struct : goal.has_record_type-returns-in-Struct
has_record_type-returns-in-Struct t c =
    of_struct c.has_column_types.result c.args.data_type.now c.args.avro_fields.now c.in-Struct.fields c.as_slice.result.now c.in-Struct.is c.as_slice.ensures c.has_column_types.ensures

pub has_list_type-returns-in-List : goal.has_list_type-returns-in-List
has_list_type-returns-in-List t c =
    of_list c.has_column_type.result c.args.data_type.now c.args.item.now c.in-List.field c.get.result.now c.in-List.is c.get.ensures c.has_column_type.ensures

pub has_list_type-returns-in-LargeList : goal.has_list_type-returns-in-LargeList
has_list_type-returns-in-LargeList t c =
    of_large_list c.has_column_type-in-LargeList.result c.args.data_type.now c.args.item.now c.in-LargeList.field c.get-in-LargeList.result.now c.in-LargeList.is c.get-in-LargeList.ensures c.has_column_type-in-LargeList.ensures

pub has_column_types-returns-then-fields-avro_fields : goal.has_column_types-returns-then-fields-avro_fields
has_column_types-returns-then-fields-avro_fields t c =
    (λ h. absurd (false≢true h), λ h. absurd (c.if-fields-avro_fields.true (zip_length (λ f a. HasColumnType true a.schema f) c.args.fields.now c.args.avro_fields.now h)))

pub has_column_types-returns-then-not-has_column_type : goal.has_column_types-returns-then-not-has_column_type
has_column_types-returns-then-not-has_column_type t c =
    let i = c.loop-i.i in
    let f = c.index-fields-i.result in
    let a = c.index-avro_fields-i.result in (
      λ h. absurd (false≢true h),
      λ h. c.if-not-has_column_type.ensures.1 (subst (λ (x : Field). HasColumnType true (get_or c.args.avro_fields.now i a).schema x) (sym c.index-fields-i.is) (zip_at (λ f a. HasColumnType true a.schema f) c.args.fields.now c.args.avro_fields.now i f a h c.loop-i-test.true)),
    )

pub has_column_types-loop-i-preserved : goal.has_column_types-loop-i-preserved
has_column_types-loop-i-preserved t c =
    let i = c.loop-i.i in
    let f = c.index-fields-i.result in
    let a = c.index-avro_fields-i.result in
    let here = subst (λ (x : Field). HasColumnType true (get_or c.args.avro_fields.now i a).schema x) c.index-fields-i.is (c.if-not-has_column_type.ensures.0 refl) in
    record {
      fit = zip_next (λ f a. HasColumnType true a.schema f) c.args.fields.now c.args.avro_fields.now i f a c.if-fields-avro_fields.false c.loop-i-test.true here c.loop-i.invariant.fit;
    }

pub has_column_types-returns : goal.has_column_types-returns
has_column_types-returns t c = (
  λ h. zip_from (λ f a. HasColumnType true a.schema f) c.args.fields.now c.args.avro_fields.now c.if-fields-avro_fields.false (λ k d e lt. c.loop-i.invariant.fit k d e (omega (arith, lt, c.loop-i-test.false))),
  λ h. refl,
)
