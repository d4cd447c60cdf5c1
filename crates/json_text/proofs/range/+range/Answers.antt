-- A list is in range where its items are, and a struct where its fields are.
use Rattle.std.proofs.Common.{◌≡◌, ℕ, ◌<◌, ◌≤◌, ◌+◌, ◌-◌, ◌*◌, length, take, drop, ap, sym, subst, ◌∙◌, arith, rules, refl, false, true, IsTrue, to_z, of_z, w32, w64, FitsSigned}
use Rattle.std.proofs.lemmas.Int.{ints}
use Rattle.std.proofs.lemmas.List.Folds.{list_all_at}
use Rattle.arrow_core.specs.declared.physical.PrimitiveType.TheVariants as primitive
use Rattle.arrow_core.specs.declared.slot.Slot.TheVariants as slot
use Rattle.arrow_core.specs.declared.types.DataType.{size-DataType}
use Rattle.arrow_array.specs.Arrays.{array_type, array_slots}
use Rattle.arrow_array.specs.Depths.{children_depth}
use Rattle.arrow_array.specs.Falls.{children_below, fixed_item_below, item_below, value_below}
use Rattle.arrow_array.specs.Lent.{part_slots}
use Rattle.arrow_array.specs.Slots.{slot_at, is_held}
use Rattle.arrow_array.proofs.Records.{capacity}
use Rattle.json_text.specs.Columns.{IsForm, integer_in_range}
use Rattle.json_text.specs.Refusals.{in_range, all_in_range}
use Rattle.json_text.proofs.ColumnLemmas.{in_list, in_fixed_list, in_dictionary, plain_range}
use Rattle.json_text.proofs.Joined.{part_at, part_length}
use Rattle.json_text.proofs.Records.{child_below, struct_children, fields_at, one_more_in_range, not_in_range, all_are_in_range, if_held_in_range, looked_up_at}
use Rattle.json_text.proofs.Beneath.{all_of_list, list_in_range, fixed_list_in_range, struct_in_range, value_in_range}
use Rattle.json_text.proofs.Runs.{by_indices, each_index, not_each_index, of_run, one_index, out_of_run, slots_of_child}
use Rattle.json_text.proofs.range.+range.Goals as goal

pub dates_in_range-returns-then-not-holds_dates : goal.dates_in_range-returns-then-not-holds_dates
dates_in_range-returns-then-not-holds_dates t c =
    let none = rw c.if-not-holds_dates.true at c.holds_dates.ensures in
    all_of_list (array_type c.args.array.now) (λ x. ap (λ t. in_range t x) (sym c.data_type.ensures.data_type) ∙ none x) (take (c.args.end - c.args.start) (drop c.args.start (array_slots c.args.array.now)))

pub dates_in_range-run_in_range-requires : goal.dates_in_range-run_in_range-requires
dates_in_range-run_in_range-requires t c =
    (search rules, (c.requires.order, (c.requires.within, subst (IsForm c.integer_form-form.result) c.data_type-2.ensures.data_type c.integer_form-form.ensures)))

pub run_in_range-children_in_range-requires : goal.run_in_range-children_in_range-requires
run_in_range-children_in_range-requires t c =
    let kind = c.values.ensures.data_type in
    let l = rw c.in-Struct.is at c.requires.within in
    let same : size-DataType c.in-Struct.array.data_type ≡ size-DataType (array_type c.args.array.now) = rw c.in-Struct.is refl in
    let below : 5 * children_depth c.values.result.now < 5 * size-DataType (array_type c.args.array.now) + 3 = omega (arith, same, children_below _ _ _ kind) in (
      search (rules, below),
      ((length c.in-Struct.array.slots, struct_children c.in-Struct.array.data_type _ _ _ (sym c.data_type.ensures.data_type ∙ c.fields_of-fields.ensures) kind), (c.requires.order, capacity _ _ _ _ kind l)),
    )

pub run_in_range-returns-then-has_no_null : goal.run_in_range-returns-then-has_no_null
run_in_range-returns-then-has_no_null t c =
    let a = c.in-Struct.array in
    let start = c.args.start in
    let end = c.args.end in
    let l : end ≤ length a.slots = rw c.in-Struct.is at c.requires.within in
    let fields = c.fields_of-fields.result.now in
    let xs = λ (i : ℕ). fields_at c.values.result.now i in
    let is = sym c.data_type.ensures.data_type ∙ c.fields_of-fields.ensures in
    let held = rw c.if-has_no_null.true at c.has_no_null.ensures in
    let same = λ (i : ℕ) (g : start ≤ i) (m : i < start + (end - start)).
    (let w : i < length a.slots = omega (arith, l, m, c.requires.order) in
    struct_in_range a.data_type fields (xs i) is ∙ ap (in_range a.data_type) (sym (c.values.ensures.slots i w (held i slot.Null w)))) in
    rw c.in-Struct.is (c.children_in_range.ensures ∙ by_indices (in_range a.data_type) (λ i. all_in_range fields (xs i)) a.slots start (end - start) (omega (arith, l, c.requires.order)) same)

pub slots_in_range-in_range-requires : goal.slots_in_range-in_range-requires
slots_in_range-in_range-requires t c = (search rules, (omega (arith, c.requires.order, c.requires.within), c.requires.form))

pub slots_in_range-returns-then-not-in_range : goal.slots_in_range-returns-then-not-in_range
slots_in_range-returns-then-not-in_range t c =
    let slots = array_slots c.args.array.now in
    let xs = take (c.args.end - c.args.start) (drop c.args.start slots) in
    let p = in_range (array_type c.args.array.now) in
    let n = part_length slots c.args.start c.args.end c.requires.order c.requires.within in
    let within : c.loop-k.k < length xs = omega (arith, n) in
    let here = ap p (part_at slots c.args.start c.args.end c.loop-k.k slot.Null c.requires.order c.requires.within (omega arith)) in
    sym (list_all_at p xs c.loop-k.k slot.Null within (here ∙ sym c.in_range.ensures ∙ c.if-not-in_range.true))

pub children_in_range-loop-child-init : goal.children_in_range-loop-child-init
children_in_range-loop-child-init t c = λ i l m. refl

pub children_in_range-dates_in_range-requires : goal.children_in_range-dates_in_range-requires
children_in_range-dates_in_range-requires t c =
    let children = c.args.children.now in
    let child = c.child-item.result in
    let k = c.loop-child.child-index in
    let below : 5 * size-DataType (array_type child) + 4 < 5 * children_depth children = omega (arith, child_below children k child (omega arith) c.child-item.is) in
    (search (rules, below), (c.requires.order, slots_of_child _ children k child c.requires.slots (omega arith) c.child-item.is))

pub children_in_range-returns-then-not-dates_in_range : goal.children_in_range-returns-then-not-dates_in_range
children_in_range-returns-then-not-dates_in_range t c =
    let children = c.args.children.now in
    let fields = c.args.fields.now in
    let child = c.child-item.result in
    let k = c.loop-child.child-index in
    let within = slots_of_child c.args.end children k child c.requires.slots (omega arith) c.child-item.is in
    let out = out_of_run (in_range (array_type child)) (array_slots child) c.args.start c.args.end c.requires.order within (sym c.dates_in_range.ensures ∙ c.if-not-dates_in_range.true) in
    let i = out.0 in
    sym (not_each_index (λ j. all_in_range fields (fields_at children j)) c.args.start (c.args.end - c.args.start) i out.1.0 (omega (arith, out.1.1.0, c.requires.order))
    (not_in_range _ fields children i k child c.requires.children.1 (omega arith) c.child-item.is out.1.1.1))

pub children_in_range-loop-child-preserved : goal.children_in_range-loop-child-preserved
children_in_range-loop-child-preserved t c =
    let children = c.args.children.now in
    let child = c.child-item.result in
    let k = c.loop-child.child-index in
    let below : k < length children = omega arith in
    let within = slots_of_child c.args.end children k child c.requires.slots below c.child-item.is in
    λ i l m. one_more_in_range _ c.args.fields.now children i k child c.requires.children.1 below c.child-item.is (c.loop-child.invariant i l m)
    (of_run (in_range (array_type child)) (array_slots child) c.args.start c.args.end i c.requires.order within (sym c.dates_in_range.ensures ∙ c.if-not-dates_in_range.false) l m)

pub children_in_range-returns : goal.children_in_range-returns
children_in_range-returns t c =
    let children = c.args.children.now in
    let fields = c.args.fields.now in
    let k = c.loop-child.child-index in
    let all : k ≡ length children = omega arith in
    sym (each_index (λ i. all_in_range fields (fields_at children i)) c.args.start (c.args.end - c.args.start)
    (λ i l m. all_are_in_range _ fields children i k c.requires.children.1 all (c.loop-child.invariant i l (omega (arith, m, c.requires.order)))))

pub in_range-returns-in-Int32 : goal.in_range-returns-in-Int32
in_range-returns-in-Int32 t c =
    let a = c.in-Int32.array in
    let v = c.value.result in
    let fits : FitsSigned w32 v = search rules in
    let back : to_z w64 (of_z w64 (to_z w32 (of_z w32 v))) ≡ v = omega (arith, ints) in
    let held : IsTrue (is_held (slot_at a.slots c.args.i)) = search rules in
    rw c.in-Int32.is (c.integer_in_range.ensures ∙ ap (integer_in_range c.args.form.now) back ∙ plain_range primitive.Int32 c.args.form.now a.data_type v c.data_type-in-Int32.ensures.kind (rw c.in-Int32.is at c.requires.form) ∙ if_held_in_range a.data_type (slot_at a.slots c.args.i) (slot.Integer v) held c.value.ensures)

pub in_range-returns-in-Int64 : goal.in_range-returns-in-Int64
in_range-returns-in-Int64 t c =
    let a = c.in-Int64.array in
    let v = c.value-in-Int64.result in
    let fits : FitsSigned w64 v = search rules in
    let back : to_z w64 (of_z w64 v) ≡ v = omega (arith, ints) in
    let held : IsTrue (is_held (slot_at a.slots c.args.i)) = search rules in
    rw c.in-Int64.is (c.integer_in_range-in-Int64.ensures ∙ ap (integer_in_range c.args.form.now) back ∙ plain_range primitive.Int64 c.args.form.now a.data_type v c.data_type-in-Int64.ensures.kind (rw c.in-Int64.is at c.requires.form) ∙ if_held_in_range a.data_type (slot_at a.slots c.args.i) (slot.Integer v) held c.value-in-Int64.ensures)

pub in_range-run_in_range-requires : goal.in_range-run_in_range-requires
in_range-run_in_range-requires t c =
    let kind = c.value-part.ensures.data_type in
    let same : size-DataType c.in-List.array.data_type ≡ size-DataType (array_type c.args.array.now) = rw c.in-List.is refl in
    let below : 5 * size-DataType (array_type c.value-part.result.array.now) + 3 < 5 * size-DataType (array_type c.args.array.now) + 1 = omega (arith, same, item_below false _ _ kind) in
    (search (rules, below), (c.value-part.ensures.part.order, (c.value-part.ensures.part.within, in_list false _ _ _ kind (rw c.in-List.is at c.requires.form))))

pub in_range-run_in_range-requires-in-LargeList : goal.in_range-run_in_range-requires-in-LargeList
in_range-run_in_range-requires-in-LargeList t c =
    let kind = c.value-part-in-LargeList.ensures.data_type in
    let same : size-DataType c.in-LargeList.array.data_type ≡ size-DataType (array_type c.args.array.now) = rw c.in-LargeList.is refl in
    let below : 5 * size-DataType (array_type c.value-part-in-LargeList.result.array.now) + 3 < 5 * size-DataType (array_type c.args.array.now) + 1 = omega (arith, same, item_below true _ _ kind) in
    (search (rules, below), (c.value-part-in-LargeList.ensures.part.order, (c.value-part-in-LargeList.ensures.part.within, in_list true _ _ _ kind (rw c.in-LargeList.is at c.requires.form))))

pub in_range-run_in_range-requires-in-FixedSizeList : goal.in_range-run_in_range-requires-in-FixedSizeList
in_range-run_in_range-requires-in-FixedSizeList t c =
    let kind = c.value-part-in-FixedSizeList.ensures.data_type in
    let same : size-DataType c.in-FixedSizeList.array.data_type ≡ size-DataType (array_type c.args.array.now) = rw c.in-FixedSizeList.is refl in
    let below : 5 * size-DataType (array_type c.value-part-in-FixedSizeList.result.array.now) + 3 < 5 * size-DataType (array_type c.args.array.now) + 1 = omega (arith, same, fixed_item_below _ _ kind) in
    (search (rules, below), (c.value-part-in-FixedSizeList.ensures.part.order, (c.value-part-in-FixedSizeList.ensures.part.within, in_fixed_list _ _ _ kind (rw c.in-FixedSizeList.is at c.requires.form))))

pub in_range-in_range-requires : goal.in_range-in_range-requires
in_range-in_range-requires t c =
    let a = c.in-Dictionary.array in
    let kind = c.values-in-Some.ensures.data_type in
    let same : size-DataType a.data_type ≡ size-DataType (array_type c.args.array.now) = rw c.in-Dictionary.is refl in
    let below : 5 * size-DataType (array_type c.values-in-Some.result.now) + 1 < 5 * size-DataType (array_type c.args.array.now) + 1 = omega (arith, same, value_below _ _ _ kind) in
    (search (rules, below), (search rules, in_dictionary _ _ _ _ kind (rw c.in-Dictionary.is at c.requires.form)))

pub in_range-children_in_range-requires : goal.in_range-children_in_range-requires
in_range-children_in_range-requires t c =
    let kind = c.values.ensures.data_type in
    let l = rw c.in-Struct.is at c.requires.within in
    let same : size-DataType c.in-Struct.array.data_type ≡ size-DataType (array_type c.args.array.now) = rw c.in-Struct.is refl in
    let below : 5 * children_depth c.values.result.now < 5 * size-DataType (array_type c.args.array.now) + 1 = omega (arith, same, children_below _ _ _ kind) in (
      search (rules, below),
      ((length c.in-Struct.array.slots, struct_children c.in-Struct.array.data_type _ _ _ (sym c.data_type-in-Struct.ensures.data_type ∙ c.fields_of.ensures) kind), (omega arith, capacity _ _ _ _ kind (omega (arith, l)))),
    )

pub in_range-returns-in-List : goal.in_range-returns-in-List
in_range-returns-in-List t c =
    let a = c.in-List.array in
    let part = c.value-part.result in
    let held : IsTrue (is_held (slot_at a.slots c.args.i)) = search rules in
    rw c.in-List.is (c.run_in_range.ensures ∙ list_in_range false a.data_type _ (part_slots part) c.value-part.ensures.data_type ∙ if_held_in_range a.data_type (slot_at a.slots c.args.i) _ held c.value-part.ensures.slot)

pub in_range-returns-in-LargeList : goal.in_range-returns-in-LargeList
in_range-returns-in-LargeList t c =
    let a = c.in-LargeList.array in
    let part = c.value-part-in-LargeList.result in
    let held : IsTrue (is_held (slot_at a.slots c.args.i)) = search rules in
    rw c.in-LargeList.is (c.run_in_range-in-LargeList.ensures ∙ list_in_range true a.data_type _ (part_slots part) c.value-part-in-LargeList.ensures.data_type ∙ if_held_in_range a.data_type (slot_at a.slots c.args.i) _ held c.value-part-in-LargeList.ensures.slot)

pub in_range-returns-in-FixedSizeList : goal.in_range-returns-in-FixedSizeList
in_range-returns-in-FixedSizeList t c =
    let a = c.in-FixedSizeList.array in
    let part = c.value-part-in-FixedSizeList.result in
    let held : IsTrue (is_held (slot_at a.slots c.args.i)) = search rules in
    rw c.in-FixedSizeList.is (c.run_in_range-in-FixedSizeList.ensures ∙ fixed_list_in_range a.data_type _ (part_slots part) c.value-part-in-FixedSizeList.ensures.data_type ∙ if_held_in_range a.data_type (slot_at a.slots c.args.i) _ held c.value-part-in-FixedSizeList.ensures.slot)

pub in_range-returns-in-Struct : goal.in_range-returns-in-Struct
in_range-returns-in-Struct t c =
    let a = c.in-Struct.array in
    let l = rw c.in-Struct.is at c.requires.within in
    let xs = fields_at c.values.result.now c.args.i in
    let held : IsTrue (is_held (slot_at a.slots c.args.i)) = search rules in
    rw c.in-Struct.is (c.children_in_range.ensures ∙ one_index (λ i. all_in_range c.fields_of.result.now (fields_at c.values.result.now i)) c.args.i ∙ struct_in_range a.data_type c.fields_of.result.now xs (sym c.data_type-in-Struct.ensures.data_type ∙ c.fields_of.ensures) ∙ if_held_in_range a.data_type (slot_at a.slots c.args.i) _ held (c.values.ensures.slots c.args.i l))

pub in_range-returns-in-Some : goal.in_range-returns-in-Some
in_range-returns-in-Some t c =
    let a = c.in-Dictionary.array in
    let x = slot_at (array_slots c.values-in-Some.result.now) c.in-Some.index in
    let l = rw c.in-Dictionary.is at c.requires.within in
    let is = looked_up_at a.slots _ a.items _ c.args.i c.in-Some.index c.keys.ensures.slots c.values-in-Some.ensures.items l c.in-Some.ensures in
    rw c.in-Dictionary.is (c.in_range.ensures ∙ value_in_range _ a.data_type _ x c.values-in-Some.ensures.data_type ∙ ap (in_range a.data_type) is)
