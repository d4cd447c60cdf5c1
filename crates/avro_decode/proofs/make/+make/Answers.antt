use Rattle.std.proofs.Common.{◌≤◌, ◌<◌, length, get_or, sym, ap, rules, true, false, ◌≡◌, ◌∙◌, arith}
use denote.Param.Weighed.{at_most}
use Rattle.avro_schema.proofs.schema.AvroField.TheLaws.{the_size as field_size}
use Rattle.avro_schema.proofs.schema.Schema.TheLaws.{the_size}
use Rattle.avro_schema.specs.declared.schema.Schema.TheViews.{the_lemmas}
use Rattle.arrow_builders.specs.declared.array.MutableArray.{MutableArray}
use Rattle.avro_schema.specs.Types.{HasColumnType}
use Rattle.avro_types.proofs.ColumnTypes.{zip_at}
use Rattle.avro_decode.proofs.Making.{item_kept, item_typed, new_list, fields_kept, fields_typed, new_struct, as_many, are_two, choose_first, choose_second}
use Rattle.avro_decode.proofs.NewBuilders.{if_ok_both, if_ok_more, made_empty, children_pushed, children_ended}
use Rattle.avro_skip.proofs.Unions.{two_of, members_size}
use Rattle.avro_decode.proofs.make.+make.Goals as goal

pub make_builder-make_builder-requires : goal.make_builder-make_builder-requires
make_builder-make_builder-requires t c =
    let s = c.args.schema.now in
    let of = c.args.data_type.now in
    (let e = ap the_size c.in-Array.is in let a = ap the_size c.get.ensures in let d = c.decreases in search (rules, the_lemmas), (item_kept s of c.in-Array.item c.get.result.now c.in-Array.is c.get.ensures c.requires.kept, item_typed s of c.in-Array.item c.get.result.now c.in-Array.is c.get.ensures false c.in-List.field c.get-in-List.result.now c.in-List.is c.get-in-List.ensures c.requires.typed))

pub make_builder-make_builder-requires-in-LargeList : goal.make_builder-make_builder-requires-in-LargeList
make_builder-make_builder-requires-in-LargeList t c =
    let s = c.args.schema.now in
    let of = c.args.data_type.now in
    let i = c.get-in-LargeList in
    let f = c.get-in-LargeList-2 in
    (let e = ap the_size c.in-Array.is in let a = ap the_size i.ensures in let d = c.decreases in search (rules, the_lemmas), (item_kept s of c.in-Array.item i.result.now c.in-Array.is i.ensures c.requires.kept, item_typed s of c.in-Array.item i.result.now c.in-Array.is i.ensures true c.in-LargeList.field f.result.now c.in-LargeList.is f.ensures c.requires.typed))

pub make_builder-make_children-requires : goal.make_builder-make_children-requires
make_builder-make_children-requires t c =
    let s = c.args.schema.now in
    let of = c.args.data_type.now in
    let xs = c.as_slice-in-Record.result.now in
    let same = c.as_slice-in-Record.ensures in
    (let e = ap the_size c.in-Record.is in let a = same in let d = c.decreases in search (rules, the_lemmas), (fields_kept s of c.in-Record.record xs c.in-Record.is same c.requires.kept, fields_typed s of c.in-Record.record xs c.in-Record.is same c.in-Struct.fields c.as_slice-in-Record-2.result.now c.in-Struct.is c.as_slice-in-Record-2.ensures c.requires.typed))

pub make_builder-make_struct-requires : goal.make_builder-make_struct-requires
make_builder-make_struct-requires t c = record { empty = made_empty _ _ _ c.in_ok-values-in-Record.ensures.made }

pub make_builder-returns-in_ok-values-in-List-clause-made : goal.make_builder-returns-in_ok-values-in-List-clause-made
make_builder-returns-in_ok-values-in-List-clause-made t c =
    let s = c.args.schema.now in
    let of = c.args.data_type.now in
    if_ok_both _ _ _ c.make_list.result (λ (b : MutableArray) sh n. new_list s of c.in-Array.item c.get.result.now c.in-Array.is c.get.ensures false c.in-List.field c.get-in-List.result.now c.in-List.is c.get-in-List.ensures c.in_ok-values-in-List.values b c.in_ok-values-in-List.ensures.made sh n) c.make_list.ensures.shape c.make_list.ensures.empty

pub make_builder-returns-in_ok-values-in-LargeList-clause-made : goal.make_builder-returns-in_ok-values-in-LargeList-clause-made
make_builder-returns-in_ok-values-in-LargeList-clause-made t c =
    let s = c.args.schema.now in
    let of = c.args.data_type.now in
    let i = c.get-in-LargeList in
    let f = c.get-in-LargeList-2 in
    if_ok_both _ _ _ c.make_large_list.result (λ (b : MutableArray) sh n. new_list s of c.in-Array.item i.result.now c.in-Array.is i.ensures true c.in-LargeList.field f.result.now c.in-LargeList.is f.ensures c.in_ok-values-in-LargeList.values b c.in_ok-values-in-LargeList.ensures.made sh n) c.make_large_list.ensures.shape c.make_large_list.ensures.empty

pub make_builder-returns-in_ok-values-in-Record-clause-made : goal.make_builder-returns-in_ok-values-in-Record-clause-made
make_builder-returns-in_ok-values-in-Record-clause-made t c =
    let s = c.args.schema.now in
    let of = c.args.data_type.now in
    let xs = c.as_slice-in-Record.result.now in
    if_ok_both _ _ _ c.make_struct.result (λ (b : MutableArray) sh n. new_struct s of c.in-Record.record xs c.in-Record.is c.as_slice-in-Record.ensures c.in-Struct.fields c.as_slice-in-Record-2.result.now c.in-Struct.is c.as_slice-in-Record-2.ensures c.in_ok-values-in-Record.values.items b c.requires.kept c.in_ok-values-in-Record.ensures.made sh n) c.make_struct.ensures.shape c.make_struct.ensures.empty

pub make_children-bounds-fields-i : goal.make_children-bounds-fields-i
make_children-bounds-fields-i t c = omega (arith, as_many c.args.fields.now c.args.avro_fields.now c.requires.typed, c.loop-i-test.true)

pub make_children-make_builder-requires : goal.make_children-make_builder-requires
make_children-make_builder-requires t c =
    let i = c.loop-i.i in
    let fs = c.args.fields.now in
    let xs = c.args.avro_fields.now in
    let f = c.index-fields-i.result in
    let a = c.index-avro_fields-i.result in
    let lt = c.loop-i-test.true in
    let m = at_most field_size xs i a lt in
    let q : the_size (get_or xs i a).schema ≤ field_size (get_or xs i a) = search (rules, the_lemmas) in
    let d = c.decreases in
    let less : i < length fs = omega (arith, as_many fs xs c.requires.typed, lt) in
    (omega arith, (c.requires.kept i a lt, (zip_at (λ y x. HasColumnType true x.schema y) fs xs i f a c.requires.typed less).1))

pub make_children-loop-i-preserved : goal.make_children-loop-i-preserved
make_children-loop-i-preserved t c =
    record { made = children_pushed c.args.avro_fields.now c.args.fields.now c.loop-i.i c.index-avro_fields-i.result c.index-fields-i.result _ _ _ (as_many _ _ c.requires.typed) c.loop-i-test.true c.loop-i.invariant.made c.in_ok-child.ensures.made c.in_ok-push.ensures.items }

pub make_children-returns-clause-made : goal.make_children-returns-clause-made
make_children-returns-clause-made t c =
    children_ended c.args.avro_fields.now c.args.fields.now c.loop-i.i _ (as_many _ _ c.requires.typed) (omega (arith, c.loop-i-test.false)) c.loop-i.invariant.made

pub make_nullable-unreachable-requires : goal.make_nullable-unreachable-requires
make_nullable-unreachable-requires t c = let two = are_two c.args.members.now c.requires.kept in search rules

pub make_nullable-make_builder-requires : goal.make_nullable-make_builder-requires
make_nullable-make_builder-requires t c =
    let ms = c.args.members.now in
    let a = c.first-item.result in
    let b = c.second-item.result in
    let two = two_of ms a b c.in-len2.len_at_least c.in-len2.len_below c.first-item.is c.second-item.is in
    let k = choose_second ms a b _ two c.requires.kept c.requires.typed (c.is_null.ensures.0 c.if-is_null.true) in
    let d = c.decreases in
    let m = members_size ms a b two in
    (omega arith, (k.kept, k.typed))

pub make_nullable-make_builder-requires-else-is_null : goal.make_nullable-make_builder-requires-else-is_null
make_nullable-make_builder-requires-else-is_null t c =
    let ms = c.args.members.now in
    let a = c.first-item.result in
    let b = c.second-item.result in
    let two = two_of ms a b c.in-len2.len_at_least c.in-len2.len_below c.first-item.is c.second-item.is in
    let k = choose_first ms a b _ two c.requires.kept c.requires.typed (λ h. let q : true ≡ false = sym (c.is_null.ensures.1 h) ∙ c.if-is_null.false in absurd cc) in
    let d = c.decreases in
    let m = members_size ms a b two in
    (omega arith, (k.kept, k.typed))

pub make_nullable-returns-then-is_null-clause-made : goal.make_nullable-returns-then-is_null-clause-made
make_nullable-returns-then-is_null-clause-made t c =
    let ms = c.args.members.now in
    let a = c.first-item.result in
    let b = c.second-item.result in
    let two = two_of ms a b c.in-len2.len_at_least c.in-len2.len_below c.first-item.is c.second-item.is in
    let k = choose_second ms a b _ two c.requires.kept c.requires.typed (c.is_null.ensures.0 c.if-is_null.true) in
    if_ok_more _ _ c.make_builder.result k.back c.make_builder.ensures.made

pub make_nullable-returns-else-is_null-clause-made : goal.make_nullable-returns-else-is_null-clause-made
make_nullable-returns-else-is_null-clause-made t c =
    let ms = c.args.members.now in
    let a = c.first-item.result in
    let b = c.second-item.result in
    let two = two_of ms a b c.in-len2.len_at_least c.in-len2.len_below c.first-item.is c.second-item.is in
    let k = choose_first ms a b _ two c.requires.kept c.requires.typed (λ h. let q : true ≡ false = sym (c.is_null.ensures.1 h) ∙ c.if-is_null.false in absurd cc) in
    if_ok_more _ _ c.make_builder-else-is_null.result k.back c.make_builder-else-is_null.ensures.made
