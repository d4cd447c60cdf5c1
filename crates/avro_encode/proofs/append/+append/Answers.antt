-- A slot is appended by its array's kind, a list by its items and a struct by its slots.
use Rattle.std.proofs.Common.{◌≡◌, ◌<◌, ◌++◌, ◌-◌, false, true, ℕ, List, length, arith, refl, sym, ap, ◌∙◌, rules}
use Rattle.std.proofs.lemmas.Result.{on_ok_weaker}
use Rattle.arrow_core.specs.declared.types.DataType.{size-DataType}
use Rattle.arrow_array.specs.Arrays.{array_type, array_slots}
use Rattle.arrow_array.specs.Falls.{children_below, item_below}
use Rattle.arrow_array.specs.Lent.{part_slots}
use Rattle.arrow_array.proofs.Records.{capacity}
use Rattle.avro_encode.specs.Listed.{plain_fields_of}
use Rattle.avro_encode.specs.Plain.{one_block, plain}
use Rattle.avro_encode.proofs.Appending.{two_members, beside_types, beside_pairs, null_appended, value_appended, member_pairs, member_plain, member_types, list_pairs, struct_pairs, array_plain, fields_plain, part_pairs, children_pair, list_kind_of, struct_kind_of, items_step, part_length, child_there, child_pairs, child_type, child_falls, fields_step, fields_end}
use Rattle.avro_encode.proofs.Groups.{after_byte}
use Rattle.avro_encode.proofs.append.+append.Goals as goal

pub append_slot-append_member-requires : goal.append_slot-append_member-requires
append_slot-append_member-requires t c = (
  search rules,
  (c.requires.within, (member_types _ c.in-Union.members _ _ c.in-Union.is c.as_slice.ensures c.requires.types, member_pairs _ c.in-Union.members _ _ c.in-Union.is c.as_slice.ensures c.requires.slots)),
)

pub append_slot-returns-in-Union : goal.append_slot-returns-in-Union
append_slot-returns-in-Union t c = record {
  ok =
      on_ok_weaker c.append_member.result (λ e. e ∙ ap (λ (z : List ℕ). c.args.out.now.items ++ z) (member_plain _ c.in-Union.members _ _ c.in-Union.is c.as_slice.ensures)) c.append_member.ensures.ok;
}

pub append_value-append_list-requires : goal.append_value-append_list-requires
append_value-append_list-requires t c =
    let p = list_pairs _ c.in-Array.item _ c.args.array.now _ c.in-Array.is c.get.ensures c.requires.types c.requires.slots in
    (search rules, (c.requires.within, (list_kind_of c.get.result.now c.args.array.now p.types c.data_type.ensures.kind.0, p)))

pub append_value-append_struct-requires : goal.append_value-append_struct-requires
append_value-append_struct-requires t c =
    let p = struct_pairs _ c.in-Record.record _ c.args.array.now _ c.in-Record.is c.as_slice.ensures c.requires.types c.requires.slots in
    (search rules, (c.requires.within, (struct_kind_of c.as_slice.result.now c.args.array.now p.types c.data_type.ensures.kind.0, p)))

pub append_value-returns-in-Array : goal.append_value-returns-in-Array
append_value-returns-in-Array t c = record {
  ok =
      on_ok_weaker c.append_list.result (λ e. e ∙ ap (λ (z : List ℕ). c.args.out.now.items ++ z) (array_plain _ c.in-Array.item _ _ c.in-Array.is c.get.ensures)) c.append_list.ensures.ok;
}

pub append_value-returns-in-Record : goal.append_value-returns-in-Record
append_value-returns-in-Record t c = record {
  ok =
      on_ok_weaker c.append_struct.result (λ e. e ∙ ap (λ (z : List ℕ). c.args.out.now.items ++ z) (fields_plain _ c.in-Record.record _ _ c.in-Record.is c.as_slice.ensures)) c.append_struct.ensures.ok;
}

pub append_list-append_items-requires : goal.append_list-append_items-requires
append_list-append_items-requires t c =
    let a = c.in-List.array in
    let v = c.value.ensures in
    let p = part_pairs c.args.item.now c.args.array.now a.data_type a.slots c.args.i false _ (part_slots c.value.result) (ap array_type c.in-List.is) (ap array_slots c.in-List.is) c.requires.pairs v.data_type v.slot in
    let same : size-DataType (array_type c.args.array.now) ≡ size-DataType a.data_type = ap (λ z. size-DataType (array_type z)) c.in-List.is in
    let d = c.decreases in
    (omega (arith, d, same, item_below false _ _ v.data_type), (v.part, (p.types, (p.counted, p.slots))))

pub append_list-append_items-requires-in-LargeList : goal.append_list-append_items-requires-in-LargeList
append_list-append_items-requires-in-LargeList t c =
    let a = c.in-LargeList.array in
    let v = c.value-in-LargeList.ensures in
    let p = part_pairs c.args.item.now c.args.array.now a.data_type a.slots c.args.i true _ (part_slots c.value-in-LargeList.result) (ap array_type c.in-LargeList.is) (ap array_slots c.in-LargeList.is) c.requires.pairs v.data_type v.slot in
    let same : size-DataType (array_type c.args.array.now) ≡ size-DataType a.data_type = ap (λ z. size-DataType (array_type z)) c.in-LargeList.is in
    let d = c.decreases in
    (omega (arith, d, same, item_below true _ _ v.data_type), (v.part, (p.types, (p.counted, p.slots))))

pub append_list-returns-in-List : goal.append_list-returns-in-List
append_list-returns-in-List t c = record {
  ok =
      let a = c.in-List.array in
      let v = c.value.ensures in
      let p = part_pairs c.args.item.now c.args.array.now a.data_type a.slots c.args.i false _ (part_slots c.value.result) (ap array_type c.in-List.is) (ap array_slots c.in-List.is) c.requires.pairs v.data_type v.slot in
      on_ok_weaker c.append_items.result (λ e. e ∙ ap (λ z. c.args.out.now.items ++ one_block (plain c.args.item.now) z) p.same) c.append_items.ensures.ok;
}

pub append_list-returns-in-LargeList : goal.append_list-returns-in-LargeList
append_list-returns-in-LargeList t c = record {
  ok =
      let a = c.in-LargeList.array in
      let v = c.value-in-LargeList.ensures in
      let p = part_pairs c.args.item.now c.args.array.now a.data_type a.slots c.args.i true _ (part_slots c.value-in-LargeList.result) (ap array_type c.in-LargeList.is) (ap array_slots c.in-LargeList.is) c.requires.pairs v.data_type v.slot in
      on_ok_weaker c.append_items-in-LargeList.result (λ e. e ∙ ap (λ z. c.args.out.now.items ++ one_block (plain c.args.item.now) z) p.same) c.append_items-in-LargeList.ensures.ok;
}

pub append_items-loop-k-preserved : goal.append_items-loop-k-preserved
append_items-loop-k-preserved t c =
    let part = c.args.part.now in
    let slots = array_slots part.array.now in
    items_step c.args.item.now _ slots part.start (part.end - part.start) c.loop-k.k _ _ _ _ refl (omega (arith, c.loop-k-test.true))
    (omega (arith, c.loop-k-test.true, part_length part.start part.end slots c.requires.part.order c.requires.part.within)) c.loop-k.invariant c.in_ok-append_slot.ensures.ok

pub append_struct-append_fields-requires : goal.append_struct-append_fields-requires
append_struct-append_fields-requires t c =
    let a = c.in-Struct.array in
    let l : c.args.i < length a.slots = rw c.in-Struct.is at c.requires.within in
    let kind = c.values.ensures.data_type in
    let p = children_pair c.args.fields.now c.args.array.now a.data_type a.slots c.args.i c.values.result.now (ap array_type c.in-Struct.is) (ap array_slots c.in-Struct.is) c.requires.pairs kind c.values.ensures.slots l in
    let same : size-DataType (array_type c.args.array.now) ≡ size-DataType a.data_type = ap (λ z. size-DataType (array_type z)) c.in-Struct.is in
    let d = c.decreases in
    (omega (arith, d, same, children_below _ _ _ kind), (capacity _ _ _ _ kind (omega (arith, l)), (p.types, p.slots)))

pub append_struct-returns : goal.append_struct-returns
append_struct-returns t c = record {
  ok =
      let a = c.in-Struct.array in
      let l : c.args.i < length a.slots = rw c.in-Struct.is at c.requires.within in
      let p = children_pair c.args.fields.now c.args.array.now a.data_type a.slots c.args.i c.values.result.now (ap array_type c.in-Struct.is) (ap array_slots c.in-Struct.is) c.requires.pairs c.values.ensures.data_type c.values.ensures.slots l in
      on_ok_weaker c.append_fields.result (λ e. e ∙ ap (λ z. c.args.out.now.items ++ plain_fields_of c.args.fields.now z) p.same) c.append_fields.ensures.ok;
}

pub append_fields-bounds-children-k : goal.append_fields-bounds-children-k
append_fields-bounds-children-k t c = child_there _ c.args.children.now c.args.i c.loop-k.k c.requires.slots c.loop-k-test.true

pub append_fields-append_slot-requires : goal.append_fields-append_slot-requires
append_fields-append_slot-requires t c =
    let k = c.loop-k.k in
    let children = c.args.children.now in
    let child = c.index-children-k.result in
    let there : k < length children = child_there _ children c.args.i k c.requires.slots c.loop-k-test.true in
    let below = child_falls children k child there c.index-children-k.is in
    let d = c.decreases in
    (omega (arith, below, d), (search rules, (child_type _ children k _ child c.requires.types c.loop-k-test.true c.index-children-k.is, child_pairs _ children c.args.i k _ child c.requires.slots c.loop-k-test.true c.index-children-k.is)))

pub append_fields-loop-k-preserved : goal.append_fields-loop-k-preserved
append_fields-loop-k-preserved t c =
    fields_step c.args.fields.now c.args.children.now c.args.i c.loop-k.k c.index-fields-k.result c.index-children-k.result _ _ _ c.requires.slots c.loop-k-test.true c.index-children-k.is c.loop-k.invariant c.in_ok-append_slot.ensures.ok

pub append_fields-returns : goal.append_fields-returns
append_fields-returns t c = record {
  ok =
      fields_end c.args.fields.now _ c.loop-k.k _ _ c.requires.slots (omega (arith, c.loop-k-test.false)) c.loop-k.invariant;
}

pub append_member-beside_null-null_first-requires : goal.append_member-beside_null-null_first-requires
append_member-beside_null-null_first-requires t c = two_members c.args.members.now _ c.requires.types

pub append_member-append_value_after-requires : goal.append_member-append_value_after-requires
append_member-append_value_after-requires t c =
    let beside = c.beside_null-null_first in
    let p = beside_types c.args.members.now beside.result.0 beside.result.1.now _ beside.ensures c.requires.types in
    (search rules, (c.requires.within, (p.0, (p.1, beside_pairs c.args.members.now beside.result.0 beside.result.1.now _ beside.ensures (sym c.is_valid-held.ensures ∙ c.if-not-held.false) c.requires.slots))))

pub append_member-returns-then-not-held : goal.append_member-returns-then-not-held
append_member-returns-then-not-held t c = record {
  ok = null_appended c.args.members.now _ _ c.beside_null-null_first.result.1.now _ _ _ _ c.beside_null-null_first.ensures c.is_valid-held.ensures c.if-not-held.true c.index_byte-index.ensures c.in_ok-push.ensures.items;
}

pub append_member-returns : goal.append_member-returns
append_member-returns t c = record {
  ok =
      on_ok_weaker c.append_value_after.result
      (λ e. value_appended c.args.members.now _ _ c.beside_null-null_first.result.1.now _ _ _ _ c.beside_null-null_first.ensures c.is_valid-held.ensures c.if-not-held.false c.index_byte-index.ensures e) c.append_value_after.ensures.ok;
}

pub append_value_after-returns-in_ok-push-in-Array : goal.append_value_after-returns-in_ok-push-in-Array
append_value_after-returns-in_ok-push-in-Array t c = record {
  ok = on_ok_weaker c.append_value.result (λ e. after_byte _ _ _ _ _ c.in_ok-push-in-Array.ensures.items e) c.append_value.ensures.ok;
}
