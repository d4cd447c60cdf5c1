-- A list shows no flaw where its child doesn't, and a struct where no child does.
use Rattle.std.proofs.Common.{◌≡◌, ◌∙◌, ◌<◌, false, true, length, arith, ap, sym, subst, rules}
use Rattle.arrow_core.specs.declared.types.DataType.{size-DataType}
use Rattle.arrow_array.specs.Arrays.{array_type, array_slots}
use Rattle.arrow_array.specs.Falls.{children_below, item_below}
use Rattle.arrow_array.specs.Slots.{slot_at}
use Rattle.arrow_array.proofs.Records.{capacity}
use Rattle.avro_encode.specs.Listed.{PairsListOf, PairsStructOf, slots_across}
use Rattle.avro_encode.proofs.Appending.{child_falls, child_type, list_kind_of, member_types, struct_kind_of}
use Rattle.avro_encode.proofs.TypesByLists.{child_item, struct_children}
use Rattle.avro_write.specs.Flaws.{shows}
use Rattle.avro_write.specs.Shown.{fields_show_of}
use Rattle.avro_write.proofs.CleanColumns.{child_clean, lists_clean, members_clean, on_true_map, slots_clean}
use Rattle.avro_write.proofs.Columns.{list_types, struct_types, struct_parts}
use Rattle.avro_write.proofs.Flawed.{child_within, flat_of, none_shows, of_array, of_fixed, of_flat, of_record, one_more_field}
use Rattle.avro_write.proofs.clean.+clean.Goals as goal

pub is_clean-has_clean_members-requires : goal.is_clean-has_clean_members-requires
is_clean-has_clean_members-requires t c = (search rules, member_types _ c.in-Union.members _ _ c.in-Union.is c.as_slice.ensures c.requires.types)

pub is_clean-returns-in-Union : goal.is_clean-returns-in-Union
is_clean-returns-in-Union t c = on_true_map c.has_clean_members.result (members_clean c.args.flaw _ c.in-Union.members _ _ c.in-Union.is c.as_slice.ensures) c.has_clean_members.ensures

pub has_clean_slots-returns : goal.has_clean_slots-returns
has_clean_slots-returns t c = on_true_map c.has_clean_values.result (slots_clean c.args.flaw c.args.schema.now _ c.requires.no_union c.if-not-shows_no_null.ensures) c.has_clean_values.ensures

pub has_clean_values-has_clean_lists-requires : goal.has_clean_values-has_clean_lists-requires
has_clean_values-has_clean_lists-requires t c =
    let h = list_types _ c.in-Array.item _ _ c.in-Array.is c.get.ensures c.requires.types in
    (search rules, (list_kind_of c.get.result.now c.args.array.now h c.data_type.ensures.kind.0, h))

pub has_clean_values-has_clean_structs-requires : goal.has_clean_values-has_clean_structs-requires
has_clean_values-has_clean_structs-requires t c =
    let h = struct_types _ c.in-Record.record _ _ c.in-Record.is c.as_slice.ensures c.requires.types in
    (search rules, (struct_kind_of c.as_slice.result.now c.args.array.now h c.data_type.ensures.kind.0, h))

pub has_clean_values-returns-in-Array : goal.has_clean_values-returns-in-Array
has_clean_values-returns-in-Array t c =
    on_true_map c.has_clean_lists.result (λ h i l held. sym (of_array c.args.flaw _ c.in-Array.item _ _ c.in-Array.is c.get.ensures held) ∙ h i l held) c.has_clean_lists.ensures

pub has_clean_values-returns-in-Record : goal.has_clean_values-returns-in-Record
has_clean_values-returns-in-Record t c =
    on_true_map c.has_clean_structs.result (λ h i l held. sym (of_record c.args.flaw _ c.in-Record.record _ _ c.in-Record.is c.as_slice.ensures held) ∙ h i l held) c.has_clean_structs.ensures

pub has_clean_values-returns-in-Fixed : goal.has_clean_values-returns-in-Fixed
has_clean_values-returns-in-Fixed t c =
    on_true_map c.is_clean_fixed.result (λ h i l held. sym (of_fixed c.args.flaw _ c.in-Fixed.fixed _ c.in-Fixed.is held) ∙ h (slot_at (array_slots c.args.array.now) i)) c.is_clean_fixed.ensures

pub has_clean_values-returns-in_default : goal.has_clean_values-returns-in_default
has_clean_values-returns-in_default t c =
    let n = flat_of c.args.schema.now c.requires.no_union c.in_default.not-Array c.in_default.not-Record c.in_default.not-Fixed in
    λ i l held. sym (of_flat c.args.flaw _ _ n held)

pub has_clean_lists-is_clean-requires : goal.has_clean_lists-is_clean-requires
has_clean_lists-is_clean-requires t c =
    let a = c.in-List.array in
    let v = c.values.ensures in
    let same : size-DataType (array_type c.args.array.now) ≡ size-DataType a.data_type = ap (λ z. size-DataType (array_type z)) c.in-List.is in
    let d = c.decreases in
    (omega (arith, d, same, item_below false _ _ v.data_type), child_item c.args.item.now a.data_type _ false (subst (PairsListOf c.args.item.now) (ap array_type c.in-List.is) c.requires.types) v.data_type)

pub has_clean_lists-is_clean-requires-in-LargeList : goal.has_clean_lists-is_clean-requires-in-LargeList
has_clean_lists-is_clean-requires-in-LargeList t c =
    let a = c.in-LargeList.array in
    let v = c.values-in-LargeList.ensures in
    let same : size-DataType (array_type c.args.array.now) ≡ size-DataType a.data_type = ap (λ z. size-DataType (array_type z)) c.in-LargeList.is in
    let d = c.decreases in
    (omega (arith, d, same, item_below true _ _ v.data_type), child_item c.args.item.now a.data_type _ true (subst (PairsListOf c.args.item.now) (ap array_type c.in-LargeList.is) c.requires.types) v.data_type)

pub has_clean_lists-returns-in-List : goal.has_clean_lists-returns-in-List
has_clean_lists-returns-in-List t c =
    let a = c.in-List.array in
    on_true_map c.is_clean.result (lists_clean (shows c.args.flaw c.args.item.now) c.args.array.now a.slots a.items _ _ (ap array_slots c.in-List.is) c.values.ensures.items c.offsets.ensures.slots) c.is_clean.ensures

pub has_clean_lists-returns-in-LargeList : goal.has_clean_lists-returns-in-LargeList
has_clean_lists-returns-in-LargeList t c =
    let a = c.in-LargeList.array in
    on_true_map c.is_clean-in-LargeList.result (lists_clean (shows c.args.flaw c.args.item.now) c.args.array.now a.slots a.items _ _ (ap array_slots c.in-LargeList.is) c.values-in-LargeList.ensures.items c.offsets-in-LargeList.ensures.slots) c.is_clean-in-LargeList.ensures

pub has_clean_structs-are_clean-requires : goal.has_clean_structs-are_clean-requires
has_clean_structs-are_clean-requires t c =
    let a = c.in-Struct.array in
    let kind = c.values.ensures.data_type in
    let same : size-DataType (array_type c.args.array.now) ≡ size-DataType a.data_type = ap (λ z. size-DataType (array_type z)) c.in-Struct.is in
    let d = c.decreases in
    (omega (arith, d, same, children_below _ _ _ kind), struct_children c.args.fields.now a.data_type (length a.slots) c.values.result.now (subst (PairsStructOf c.args.fields.now) (ap array_type c.in-Struct.is) c.requires.types) kind)

pub has_clean_structs-returns : goal.has_clean_structs-returns
has_clean_structs-returns t c =
    let a = c.in-Struct.array in
    let kind = c.values.ensures.data_type in
    on_true_map c.are_clean.result
    (λ h i l held. let m : i < length a.slots = rw c.in-Struct.is at l in
    sym (ap (fields_show_of c.args.flaw c.args.fields.now) (struct_parts c.args.array.now a.slots i c.values.result.now (ap array_slots c.in-Struct.is) held c.values.ensures.slots m)) ∙ h i (capacity _ _ _ _ kind (omega (arith, m)))) c.are_clean.ensures

pub are_clean-bounds-children-k : goal.are_clean-bounds-children-k
are_clean-bounds-children-k t c = child_within c.args.fields.now c.args.children.now c.loop-k.k c.requires.types c.loop-k-test.true

pub are_clean-is_clean-requires : goal.are_clean-is_clean-requires
are_clean-is_clean-requires t c =
    let k = c.loop-k.k in
    let children = c.args.children.now in
    let child = c.index-children-k.result in
    let there : k < length children = child_within c.args.fields.now children k c.requires.types c.loop-k-test.true in
    let below = child_falls children k child there c.index-children-k.is in
    let d = c.decreases in
    (omega (arith, below, d), child_type _ children k _ child c.requires.types c.loop-k-test.true c.index-children-k.is)

pub are_clean-loop-k-preserved : goal.are_clean-loop-k-preserved
are_clean-loop-k-preserved t c =
    let k = c.loop-k.k in
    let children = c.args.children.now in
    let there : k < length children = child_within c.args.fields.now children k c.requires.types c.loop-k-test.true in
    record {
      none = λ i have. one_more_field c.args.flaw c.args.fields.now (slots_across children i) k c.index-fields-k.result c.loop-k-test.true (c.loop-k.invariant.none i have)
          (child_clean c.args.flaw _ children i k c.index-children-k.result have there c.index-children-k.is c.if-not-is_clean.ensures);
    }

pub are_clean-returns : goal.are_clean-returns
are_clean-returns t c = λ i have. none_shows c.args.flaw c.args.fields.now (slots_across c.args.children.now i) (λ j d l. c.loop-k.invariant.none i have j d (omega (arith, l, c.loop-k-test.false)))
