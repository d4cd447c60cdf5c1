-- A builder of lists is made over one of the items' type, and a struct's over those of the fields' types.
use Rattle.std.proofs.Common.{ap, ◌∙◌, arith, rules}
use Rattle.arrow_core.proofs.types.DataType.TheLaws.{the_size}
use Rattle.arrow_core.proofs.types.Field.TheLaws.{the_size as field_size}
use Rattle.arrow_core.specs.declared.types.DataType.TheViews.{the_lemmas}
use Rattle.json_line.specs.Builders.{shapes_of, IsNotNested}
use Rattle.json_line.proofs.Making.{made-more, readable-at, taken-all}
use Rattle.json_line.proofs.MadeLaws.{flat_built, large_list_built, list_built, sized_list_built, struct_built}
use Rattle.json_line.proofs.Shapes.{are_readable, large_list_item_readable, list_item_readable, size_is, sized_item_readable, struct_fields_readable}
use Rattle.json_line.proofs.made.+make.Goals as goal

pub make_builder-make_builder-requires : goal.make_builder-make_builder-requires
make_builder-make_builder-requires t c =
    (let e = ap the_size c.in-List.is in let a = ap field_size c.get.ensures in let d = c.decreases in search (rules, the_lemmas), list_item_readable c.args.data_type.now c.requires c.in-List.item c.get.result.now c.in-List.is c.get.ensures)

pub make_builder-make_builder-requires-in-LargeList : goal.make_builder-make_builder-requires-in-LargeList
make_builder-make_builder-requires-in-LargeList t c =
    (let e = ap the_size c.in-LargeList.is in let a = ap field_size c.get-in-LargeList.ensures in let d = c.decreases in search (rules, the_lemmas), large_list_item_readable c.args.data_type.now c.requires c.in-LargeList.item c.get-in-LargeList.result.now c.in-LargeList.is c.get-in-LargeList.ensures)

pub make_builder-make_builder-requires-in-FixedSizeList : goal.make_builder-make_builder-requires-in-FixedSizeList
make_builder-make_builder-requires-in-FixedSizeList t c =
    (let e = ap the_size c.in-FixedSizeList.is in let a = ap field_size c.get-in-FixedSizeList.ensures in let d = c.decreases in search (rules, the_lemmas), sized_item_readable c.args.data_type.now c.requires c.in-FixedSizeList.item c.get-in-FixedSizeList.result.now c.in-FixedSizeList.size c.in-FixedSizeList.is c.get-in-FixedSizeList.ensures)

pub make_builder-make_sized_list-requires : goal.make_builder-make_sized_list-requires
make_builder-make_sized_list-requires t c = size_is c.args.data_type.now c.in-FixedSizeList.item c.in-FixedSizeList.size c.in-FixedSizeList.is

pub make_builder-make_builders-requires : goal.make_builder-make_builders-requires
make_builder-make_builders-requires t c =
    (let e = ap the_size c.in-Struct.is in let a = c.as_slice.ensures in let d = c.decreases in search (rules, the_lemmas), are_readable c.as_slice.result.now (struct_fields_readable c.args.data_type.now c.requires c.in-Struct.fields c.as_slice.result.now c.in-Struct.is c.as_slice.ensures))

pub make_builder-returns-in_ok-values-in-List-clause-shape : goal.make_builder-returns-in_ok-values-in-List-clause-shape
make_builder-returns-in_ok-values-in-List-clause-shape t c =
    list_built c.make_list.result c.args.data_type.now c.in-List.item c.get.result.now c.in_ok-values-in-List.values c.in-List.is c.get.ensures c.in_ok-values-in-List.ensures.shape c.make_list.ensures.shape

pub make_builder-returns-in_ok-values-in-LargeList-clause-shape : goal.make_builder-returns-in_ok-values-in-LargeList-clause-shape
make_builder-returns-in_ok-values-in-LargeList-clause-shape t c =
    large_list_built c.make_large_list.result c.args.data_type.now c.in-LargeList.item c.get-in-LargeList.result.now c.in_ok-values-in-LargeList.values c.in-LargeList.is c.get-in-LargeList.ensures c.in_ok-values-in-LargeList.ensures.shape c.make_large_list.ensures.shape

pub make_builder-returns-in_ok-values-in-FixedSizeList-clause-shape : goal.make_builder-returns-in_ok-values-in-FixedSizeList-clause-shape
make_builder-returns-in_ok-values-in-FixedSizeList-clause-shape t c =
    sized_list_built c.make_sized_list.result c.args.data_type.now c.in-FixedSizeList.item c.get-in-FixedSizeList.result.now c.in-FixedSizeList.size c.in_ok-values-in-FixedSizeList.values c.in-FixedSizeList.is c.get-in-FixedSizeList.ensures c.in_ok-values-in-FixedSizeList.ensures.shape c.make_sized_list.ensures.shape

pub make_builder-returns-in_ok-values-in-Struct-clause-shape : goal.make_builder-returns-in_ok-values-in-Struct-clause-shape
make_builder-returns-in_ok-values-in-Struct-clause-shape t c =
    struct_built c.make_struct.result c.args.data_type.now c.in-Struct.fields c.as_slice.result.now c.in_ok-values-in-Struct.values.items c.in-Struct.is c.as_slice.ensures c.in_ok-values-in-Struct.ensures.shapes c.make_struct.ensures.shape

pub make_builder-returns-in_default-clause-shape : goal.make_builder-returns-in_default-clause-shape
make_builder-returns-in_default-clause-shape t c =
    let l = c.in_default.not-List in
    let m = c.in_default.not-LargeList in
    let n = c.in_default.not-Struct in
    let o = c.in_default.not-FixedSizeList in
    let flat : IsNotNested c.args.data_type.now = first_of (search (rules, the_lemmas), grind (arith, the_lemmas)) in
    flat_built c.make_flat.result c.args.data_type.now flat c.make_flat.ensures.shape

pub make_builders-make_builder-requires : goal.make_builders-make_builder-requires
make_builders-make_builder-requires t c = (let d = c.decreases in search (rules, the_lemmas), readable-at c.args.fields.now c.loop-field.field-index c.field-item.result c.loop-field-test.true c.field-item.is c.requires)

pub make_builders-loop-field-preserved : goal.make_builders-loop-field-preserved
make_builders-loop-field-preserved t c =
    made-more c.args.fields.now c.loop-field.field-index c.field-item.result c.loop-field-test.true c.field-item.is c.loop-field.builders.items _ c.in_ok-builder.builder c.in_ok-builder.ensures.shape c.in_ok-push.ensures.items c.loop-field.invariant

pub make_builders-returns-clause-shapes : goal.make_builders-returns-clause-shapes
make_builders-returns-clause-shapes t c = c.loop-field.invariant ∙ ap shapes_of (taken-all c.args.fields.now c.loop-field.field-index c.loop-field-test.false)
