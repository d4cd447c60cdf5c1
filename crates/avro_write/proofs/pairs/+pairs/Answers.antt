use Rattle.std.proofs.Common.{refl, sym, arith}
use Rattle.std.proofs.lemmas.Bool.{false≢true}
use Rattle.avro_encode.specs.PairTypes.{PairsType}
use Rattle.avro_types.proofs.ColumnTypes.{zip_from, zip_at, zip_length, zip_next}
use Rattle.avro_write.proofs.TypePairs.{of_array, of_union, of_record, of_struct, of_list, of_large_list}
use Rattle.avro_write.proofs.pairs.+pairs.Goals as goal

pub pairs-returns-in-Record : goal.pairs-returns-in-Record
pairs-returns-in-Record t c =
    of_record c.args.schema.now c.pairs_struct.result c.args.data_type.now c.in-Record.record c.as_slice.result.now c.in-Record.is c.as_slice.ensures c.pairs_struct.ensures

pub pairs-returns-in-Array : goal.pairs-returns-in-Array
pairs-returns-in-Array t c =
    of_array c.args.schema.now c.pairs_list.result c.args.data_type.now c.in-Array.item c.get.result.now c.in-Array.is c.get.ensures c.pairs_list.ensures

pub pairs-returns-in-Union : goal.pairs-returns-in-Union
pairs-returns-in-Union t c =
    of_union c.args.schema.now c.pairs_member.result c.args.data_type.now c.in-Union.members c.as_slice-in-Union.result.now c.in-Union.is c.as_slice-in-Union.ensures c.pairs_member.ensures

pub pairs_struct-returns-in-Struct : goal.pairs_struct-returns-in-Struct
pairs_struct-returns-in-Struct t c =
    of_struct c.pairs_columns.result c.args.data_type.now c.args.fields.now c.in-Struct.columns c.as_slice.result.now c.in-Struct.is c.as_slice.ensures c.pairs_columns.ensures

pub pairs_list-returns-in-List : goal.pairs_list-returns-in-List
pairs_list-returns-in-List t c =
    of_list c.pairs.result c.args.data_type.now c.args.item.now c.in-List.field c.get.result.now c.in-List.is c.get.ensures c.pairs.ensures

pub pairs_list-returns-in-LargeList : goal.pairs_list-returns-in-LargeList
pairs_list-returns-in-LargeList t c =
    of_large_list c.pairs-in-LargeList.result c.args.data_type.now c.args.item.now c.in-LargeList.field c.get-in-LargeList.result.now c.in-LargeList.is c.get-in-LargeList.ensures c.pairs-in-LargeList.ensures

pub pairs_columns-returns-then-columns-fields : goal.pairs_columns-returns-then-columns-fields
pairs_columns-returns-then-columns-fields t c =
    (λ h. absurd (false≢true h), λ h. absurd (c.if-columns-fields.true (sym (zip_length (λ a f. PairsType a.schema f.data_type) c.args.fields.now c.args.columns.now h))))

pub pairs_columns-returns-then-not-pairs : goal.pairs_columns-returns-then-not-pairs
pairs_columns-returns-then-not-pairs t c =
    let i = c.loop-i.i in
    let f = c.index-columns-i.result in
    let a = c.index-fields-i.result in (
      λ h. absurd (false≢true h),
      λ h. c.if-not-pairs.ensures.1 (zip_at (λ a f. PairsType a.schema f.data_type) c.args.fields.now c.args.columns.now i a f h c.loop-i-test.true),
    )

pub pairs_columns-loop-i-preserved : goal.pairs_columns-loop-i-preserved
pairs_columns-loop-i-preserved t c =
    let i = c.loop-i.i in
    let f = c.index-columns-i.result in
    let a = c.index-fields-i.result in
    let here = c.if-not-pairs.ensures.0 refl in
    record {
      fit = zip_next (λ a f. PairsType a.schema f.data_type) c.args.fields.now c.args.columns.now i a f (sym c.if-columns-fields.false) c.loop-i-test.true here c.loop-i.invariant.fit;
    }

pub pairs_columns-returns : goal.pairs_columns-returns
pairs_columns-returns t c = (
  λ h. zip_from (λ a f. PairsType a.schema f.data_type) c.args.fields.now c.args.columns.now (sym c.if-columns-fields.false) (λ k d e l. c.loop-i.invariant.fit k d e (omega (arith, l, c.loop-i-test.false))),
  λ h. refl,
)
