-- A list shows a flaw where an item does, and a struct where a field's slot does.
use Rattle.std.proofs.Common.{◌≡◌, ◌∙◌, ◌<◌, false, true, length, get_or, arith, ap, sym, subst, rules}
use Rattle.arrow_core.specs.declared.types.DataType.{size-DataType}
use Rattle.arrow_array.specs.Arrays.{array_type, array_slots}
use Rattle.arrow_array.specs.Falls.{children_below, item_below}
use Rattle.arrow_array.specs.Lent.{part_slots}
use Rattle.arrow_array.specs.Slots.{slot_at}
use Rattle.arrow_array.proofs.Records.{capacity}
use Rattle.avro_encode.specs.Listed.{PairsListOf, PairsStructOf, slots_across}
use Rattle.avro_encode.proofs.Appending.{across_at, child_falls, child_type, list_kind_of, member_types, struct_kind_of}
use Rattle.avro_encode.proofs.TypesByLists.{child_item, struct_children}
use Rattle.avro_write.specs.Flaws.{shows}
use Rattle.avro_write.specs.Shown.{fields_show_of}
use Rattle.avro_write.proofs.Columns.{list_types, struct_types, list_parts, struct_parts}
use Rattle.avro_write.proofs.Flawed.{of_array, of_record, of_fixed, of_union, of_flat, of_no_value, any_of_part, none_of_part, more_from, child_within, as_many_children, field_shows, none_shows, one_more_field, flat_of}
use Rattle.avro_write.proofs.flaws.+shows.Goals as goal

pub shows-member_shows-requires : goal.shows-member_shows-requires
shows-member_shows-requires t c = (search rules, (c.requires.within, member_types _ c.in-Union.members _ _ c.in-Union.is c.as_slice.ensures c.requires.types))

pub shows-returns-in-Union : goal.shows-returns-in-Union
shows-returns-in-Union t c = c.member_shows.ensures ∙ of_union c.args.flaw _ c.in-Union.members _ _ c.in-Union.is c.as_slice.ensures

pub value_shows-list_shows-requires : goal.value_shows-list_shows-requires
value_shows-list_shows-requires t c =
    let h = list_types _ c.in-Array.item _ _ c.in-Array.is c.get.ensures c.requires.types in
    (search rules, (c.requires.within, (sym c.is_valid.ensures ∙ c.if-not-is_valid.false, (list_kind_of c.get.result.now c.args.array.now h c.data_type.ensures.kind.0, h))))

pub value_shows-struct_shows-requires : goal.value_shows-struct_shows-requires
value_shows-struct_shows-requires t c =
    let h = struct_types _ c.in-Record.record _ _ c.in-Record.is c.as_slice.ensures c.requires.types in
    (search rules, (c.requires.within, (sym c.is_valid.ensures ∙ c.if-not-is_valid.false, (struct_kind_of c.as_slice.result.now c.args.array.now h c.data_type.ensures.kind.0, h))))

pub value_shows-returns-then-not-is_valid : goal.value_shows-returns-then-not-is_valid
value_shows-returns-then-not-is_valid t c =
    c.is_null_flaw.ensures ∙ of_no_value _ _ _ c.requires.no_union (sym c.is_valid.ensures ∙ c.if-not-is_valid.true)

pub value_shows-returns-in-Array : goal.value_shows-returns-in-Array
value_shows-returns-in-Array t c =
    c.list_shows.ensures ∙ of_array c.args.flaw _ c.in-Array.item _ _ c.in-Array.is c.get.ensures (sym c.is_valid.ensures ∙ c.if-not-is_valid.false)

pub value_shows-returns-in-Record : goal.value_shows-returns-in-Record
value_shows-returns-in-Record t c =
    c.struct_shows.ensures ∙ of_record c.args.flaw _ c.in-Record.record _ _ c.in-Record.is c.as_slice.ensures (sym c.is_valid.ensures ∙ c.if-not-is_valid.false)

pub value_shows-returns-in-Fixed : goal.value_shows-returns-in-Fixed
value_shows-returns-in-Fixed t c =
    c.fixed_shows.ensures ∙ of_fixed c.args.flaw _ c.in-Fixed.fixed _ c.in-Fixed.is (sym c.is_valid.ensures ∙ c.if-not-is_valid.false)

pub value_shows-returns-in_default : goal.value_shows-returns-in_default
value_shows-returns-in_default t c =
    let n = flat_of c.args.schema.now c.requires.no_union c.in_default.not-Array c.in_default.not-Record c.in_default.not-Fixed in
    of_flat c.args.flaw _ _ n (sym c.is_valid.ensures ∙ c.if-not-is_valid.false)

pub list_shows-items_show-requires : goal.list_shows-items_show-requires
list_shows-items_show-requires t c =
    let a = c.in-List.array in
    let v = c.value.ensures in
    let same : size-DataType (array_type c.args.array.now) ≡ size-DataType a.data_type = ap (λ z. size-DataType (array_type z)) c.in-List.is in
    let d = c.decreases in
    (omega (arith, d, same, item_below false _ _ v.data_type), (v.part, child_item c.args.item.now a.data_type _ false (subst (PairsListOf c.args.item.now) (ap array_type c.in-List.is) c.requires.types) v.data_type))

pub list_shows-items_show-requires-in-LargeList : goal.list_shows-items_show-requires-in-LargeList
list_shows-items_show-requires-in-LargeList t c =
    let a = c.in-LargeList.array in
    let v = c.value-in-LargeList.ensures in
    let same : size-DataType (array_type c.args.array.now) ≡ size-DataType a.data_type = ap (λ z. size-DataType (array_type z)) c.in-LargeList.is in
    let d = c.decreases in
    (omega (arith, d, same, item_below true _ _ v.data_type), (v.part, child_item c.args.item.now a.data_type _ true (subst (PairsListOf c.args.item.now) (ap array_type c.in-LargeList.is) c.requires.types) v.data_type))

pub list_shows-returns-in-List : goal.list_shows-returns-in-List
list_shows-returns-in-List t c =
    c.items_show.ensures ∙ list_parts (shows c.args.flaw c.args.item.now) c.args.array.now c.in-List.array.slots c.args.i (part_slots c.value.result) (ap array_slots c.in-List.is) c.requires.held c.value.ensures.slot

pub list_shows-returns-in-LargeList : goal.list_shows-returns-in-LargeList
list_shows-returns-in-LargeList t c =
    c.items_show-in-LargeList.ensures ∙ list_parts (shows c.args.flaw c.args.item.now) c.args.array.now c.in-LargeList.array.slots c.args.i (part_slots c.value-in-LargeList.result) (ap array_slots c.in-LargeList.is) c.requires.held c.value-in-LargeList.ensures.slot

pub items_show-loop-k-preserved : goal.items_show-loop-k-preserved
items_show-loop-k-preserved t c = record {
  none = more_from (λ j. shows c.args.flaw c.args.item.now (slot_at (array_slots c.args.part.now.array.now) j) ≡ false) c.args.part.now.start c.loop-k.k c.loop-k.invariant.none (sym c.shows.ensures ∙ c.if-shows.false);
}

pub items_show-returns-then-shows : goal.items_show-returns-then-shows
items_show-returns-then-shows t c =
    let part = c.args.part.now in
    sym (any_of_part (shows c.args.flaw c.args.item.now) (array_slots part.array.now) part.start part.end c.loop-k.k (omega (arith, c.loop-k.auto.k, c.requires.part.order)) c.loop-k-test.true c.requires.part.within (sym c.shows.ensures ∙ c.if-shows.true))

pub items_show-returns : goal.items_show-returns
items_show-returns t c =
    let part = c.args.part.now in
    sym (none_of_part (shows c.args.flaw c.args.item.now) (array_slots part.array.now) part.start part.end c.requires.part.order c.requires.part.within (λ j m l. c.loop-k.invariant.none j m (omega (arith, l, c.loop-k-test.false))))

pub struct_shows-fields_show-requires : goal.struct_shows-fields_show-requires
struct_shows-fields_show-requires t c =
    let a = c.in-Struct.array in
    let l : c.args.i < length a.slots = rw c.in-Struct.is at c.requires.within in
    let kind = c.values.ensures.data_type in
    let same : size-DataType (array_type c.args.array.now) ≡ size-DataType a.data_type = ap (λ z. size-DataType (array_type z)) c.in-Struct.is in
    let d = c.decreases in
    (omega (arith, d, same, children_below _ _ _ kind), (capacity _ _ _ _ kind (omega (arith, l)), struct_children c.args.fields.now a.data_type (length a.slots) c.values.result.now (subst (PairsStructOf c.args.fields.now) (ap array_type c.in-Struct.is) c.requires.types) kind))

pub struct_shows-returns : goal.struct_shows-returns
struct_shows-returns t c =
    let a = c.in-Struct.array in
    let l : c.args.i < length a.slots = rw c.in-Struct.is at c.requires.within in
    c.fields_show.ensures ∙ ap (fields_show_of c.args.flaw c.args.fields.now) (struct_parts c.args.array.now a.slots c.args.i c.values.result.now (ap array_slots c.in-Struct.is) c.requires.held c.values.ensures.slots l)

pub fields_show-bounds-children-k : goal.fields_show-bounds-children-k
fields_show-bounds-children-k t c = child_within c.args.fields.now c.args.children.now c.loop-k.k c.requires.types c.loop-k-test.true

pub fields_show-shows-requires : goal.fields_show-shows-requires
fields_show-shows-requires t c =
    let k = c.loop-k.k in
    let children = c.args.children.now in
    let child = c.index-children-k.result in
    let there : k < length children = child_within c.args.fields.now children k c.requires.types c.loop-k-test.true in
    let below = child_falls children k child there c.index-children-k.is in
    let d = c.decreases in
    (omega (arith, below, d), (search rules, child_type _ children k _ child c.requires.types c.loop-k-test.true c.index-children-k.is))

pub fields_show-loop-k-preserved : goal.fields_show-loop-k-preserved
fields_show-loop-k-preserved t c =
    let k = c.loop-k.k in
    let children = c.args.children.now in
    let there : k < length children = child_within c.args.fields.now children k c.requires.types c.loop-k-test.true in
    let same = across_at children c.args.i k c.index-children-k.result there c.index-children-k.is in
    record {
      none = one_more_field c.args.flaw c.args.fields.now (slots_across children c.args.i) k c.index-fields-k.result c.loop-k-test.true c.loop-k.invariant.none
          (ap (λ x. shows c.args.flaw (get_or c.args.fields.now k c.index-fields-k.result).schema x) same ∙ sym c.shows.ensures ∙ c.if-shows.false);
    }

pub fields_show-returns-then-shows : goal.fields_show-returns-then-shows
fields_show-returns-then-shows t c =
    let k = c.loop-k.k in
    let children = c.args.children.now in
    let there : k < length children = child_within c.args.fields.now children k c.requires.types c.loop-k-test.true in
    let same = across_at children c.args.i k c.index-children-k.result there c.index-children-k.is in
    sym (field_shows c.args.flaw c.args.fields.now (slots_across children c.args.i) k c.index-fields-k.result c.loop-k-test.true (as_many_children c.args.fields.now children c.args.i c.requires.types)
    (ap (λ x. shows c.args.flaw (get_or c.args.fields.now k c.index-fields-k.result).schema x) same ∙ sym c.shows.ensures ∙ c.if-shows.true))

pub fields_show-returns : goal.fields_show-returns
fields_show-returns t c = sym (none_shows c.args.flaw c.args.fields.now (slots_across c.args.children.now c.args.i) (λ j d l. c.loop-k.invariant.none j d (omega (arith, l, c.loop-k-test.false))))
