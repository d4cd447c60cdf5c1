-- The names beneath lists are those of the items' type, and beneath structs those of the fields' types.
use Rattle.std.proofs.Common.{ap, rules}
use Rattle.arrow_core.proofs.types.DataType.TheLaws.{the_size}
use Rattle.arrow_core.proofs.types.Field.TheLaws.{the_size as field_size}
use Rattle.arrow_core.specs.declared.types.DataType.TheViews.{the_lemmas}
use Rattle.json_line.proofs.Making.{names-ended, names-more, readable-at}
use Rattle.json_line.proofs.Shapes.{are_readable, large_list_item_readable, list_item_readable, sized_item_readable, struct_fields_readable}
use Rattle.json_line.proofs.FieldLaws.{large_list_names, list_names, sized_list_names, struct_names, structs_suit}
use Rattle.json_line.proofs.field_names.+names.Goals as goal

pub field_names-item_names-requires : goal.field_names-item_names-requires
field_names-item_names-requires t c =
    (let e = ap the_size c.in-List.is in let a = ap field_size c.get.ensures in let d = c.decreases in search (rules, the_lemmas), list_item_readable c.args.data_type.now c.requires c.in-List.item c.get.result.now c.in-List.is c.get.ensures)

pub field_names-item_names-requires-in-LargeList : goal.field_names-item_names-requires-in-LargeList
field_names-item_names-requires-in-LargeList t c =
    (let e = ap the_size c.in-LargeList.is in let a = ap field_size c.get-in-LargeList.ensures in let d = c.decreases in search (rules, the_lemmas), large_list_item_readable c.args.data_type.now c.requires c.in-LargeList.item c.get-in-LargeList.result.now c.in-LargeList.is c.get-in-LargeList.ensures)

pub field_names-sized_names-requires : goal.field_names-sized_names-requires
field_names-sized_names-requires t c =
    (let e = ap the_size c.in-FixedSizeList.is in let a = ap field_size c.get-in-FixedSizeList.ensures in let d = c.decreases in search (rules, the_lemmas), sized_item_readable c.args.data_type.now c.requires c.in-FixedSizeList.item c.get-in-FixedSizeList.result.now c.in-FixedSizeList.size c.in-FixedSizeList.is c.get-in-FixedSizeList.ensures)

pub field_names-struct_names-requires : goal.field_names-struct_names-requires
field_names-struct_names-requires t c =
    (let e = ap the_size c.in-Struct.is in let a = c.as_slice.ensures in let d = c.decreases in search (rules, the_lemmas), struct_fields_readable c.args.data_type.now c.requires c.in-Struct.fields c.as_slice.result.now c.in-Struct.is c.as_slice.ensures)

pub field_names-returns-in-List-clause-suits : goal.field_names-returns-in-List-clause-suits
field_names-returns-in-List-clause-suits t c = list_names c.item_names.result c.args.data_type.now c.in-List.item c.get.result.now c.in-List.is c.get.ensures c.item_names.ensures.suits

pub field_names-returns-in-LargeList-clause-suits : goal.field_names-returns-in-LargeList-clause-suits
field_names-returns-in-LargeList-clause-suits t c = large_list_names c.item_names-in-LargeList.result c.args.data_type.now c.in-LargeList.item c.get-in-LargeList.result.now c.in-LargeList.is c.get-in-LargeList.ensures c.item_names-in-LargeList.ensures.suits

pub field_names-returns-in-FixedSizeList-clause-suits : goal.field_names-returns-in-FixedSizeList-clause-suits
field_names-returns-in-FixedSizeList-clause-suits t c =
    sized_list_names c.sized_names.result c.args.data_type.now c.in-FixedSizeList.item c.get-in-FixedSizeList.result.now c.in-FixedSizeList.size c.in-FixedSizeList.is c.get-in-FixedSizeList.ensures c.sized_names.ensures.suits

pub field_names-returns-in-Struct-clause-suits : goal.field_names-returns-in-Struct-clause-suits
field_names-returns-in-Struct-clause-suits t c = struct_names c.struct_names.result c.args.data_type.now c.in-Struct.fields c.as_slice.result.now c.in-Struct.is c.as_slice.ensures c.struct_names.ensures.suits

pub struct_names-names_below-requires : goal.struct_names-names_below-requires
struct_names-names_below-requires t c = (let d = c.decreases in search rules, are_readable c.args.fields.now c.requires)

pub struct_names-returns-clause-suits : goal.struct_names-returns-clause-suits
struct_names-returns-clause-suits t c = structs_suit c.args.fields.now c.in_ok-own.own c.in_ok-below.below c.requires c.in_ok-own.ensures.names c.in_ok-below.ensures.suits

pub names_below-field_names-requires : goal.names_below-field_names-requires
names_below-field_names-requires t c = (let d = c.decreases in search (rules, the_lemmas), readable-at c.args.fields.now c.loop-field.field-index c.field-item.result c.loop-field-test.true c.field-item.is c.requires)

pub names_below-loop-field-preserved : goal.names_below-loop-field-preserved
names_below-loop-field-preserved t c =
    names-more c.args.fields.now c.loop-field.field-index c.field-item.result c.loop-field-test.true c.field-item.is c.loop-field.below.items _ c.in_ok-names.names c.in_ok-names.ensures.suits c.in_ok-push.ensures.items c.loop-field.invariant

pub names_below-returns-clause-suits : goal.names_below-returns-clause-suits
names_below-returns-clause-suits t c = names-ended c.args.fields.now c.loop-field.field-index c.loop-field.below.items c.loop-field-test.false c.loop-field.invariant
