-- Each turn adds a comma where one is wanted and an item, or a key and a value. At the end the bracket makes the text of the list or struct.
use Rattle.std.proofs.Common.{◌≡◌, ◌<◌, ◌++◌, [], length, map, take, drop, ap, sym, ◌∙◌, arith, rules, ◌+◌, ◌-◌, ◌*◌, refl, false, true, IsTrue, subst, to_z, of_z, w32, w64, FitsSigned}
use Rattle.std.proofs.lemmas.Bool.Decides.{nat_tests}
use Rattle.std.proofs.lemmas.Int.{ints}
use Rattle.std.proofs.lemmas.Result.{on_ok_weaker}
use Rattle.arrow_core.specs.declared.slot.Slot.TheVariants as slot
use Rattle.arrow_core.specs.declared.physical.PrimitiveType.TheVariants as primitive
use Rattle.arrow_core.specs.declared.types.DataType.{size-DataType}
use Rattle.arrow_array.specs.Arrays.{array_type, array_slots}
use Rattle.arrow_array.specs.Depths.{children_depth}
use Rattle.arrow_array.specs.Falls.{children_below, fixed_item_below, item_below, value_below}
use Rattle.arrow_array.specs.Lent.{part_slots}
use Rattle.arrow_array.specs.Slots.{slot_at, is_held}
use Rattle.arrow_array.proofs.Records.{capacity}
use Rattle.json_text.specs.Columns.{AreColumns, AreWithin, columns_text, integer_text}
use Rattle.json_text.specs.JsonText.{array, text}
use Rattle.json_text.proofs.ColumnLemmas.{in_list, in_fixed_list, in_dictionary, within_item, within_fixed_item, within_value, children_columns, children_object, column_here, text_more, object_closed, no_column, plain_form, first_is, none_is}
use Rattle.json_text.proofs.Forms.{appended, list_is, fixed_list_is, value_is}
use Rattle.json_text.proofs.Joined.{empty_part, joined_more, map_at, map_length, part_at, part_length}
use Rattle.json_text.proofs.Kept.{starts_through}
use Rattle.json_text.proofs.Records.{child_below, looked_up_at}
use Rattle.json_text.proofs.slots.+slots.Goals as goal

pub push_list-push_part-requires : goal.push_list-push_part-requires
push_list-push_part-requires t c =
    let t = c.args.array.now.data_type in
    let kind = c.value.ensures.data_type in
    let below : 5 * size-DataType (array_type c.value.result.array.now) + 6 < 5 * size-DataType t + 2 = omega (arith, item_below false _ _ kind) in
    (search (rules, below), (c.value.ensures.part, (in_list false _ _ _ kind c.requires.form, within_item false _ _ _ kind c.requires.columns)))

pub push_large_list-push_part-requires : goal.push_large_list-push_part-requires
push_large_list-push_part-requires t c =
    let t = c.args.array.now.data_type in
    let kind = c.value.ensures.data_type in
    let below : 5 * size-DataType (array_type c.value.result.array.now) + 6 < 5 * size-DataType t + 2 = omega (arith, item_below true _ _ kind) in
    (search (rules, below), (c.value.ensures.part, (in_list true _ _ _ kind c.requires.form, within_item true _ _ _ kind c.requires.columns)))

pub push_fixed_size_list-push_part-requires : goal.push_fixed_size_list-push_part-requires
push_fixed_size_list-push_part-requires t c =
    let t = c.args.array.now.data_type in
    let kind = c.value.ensures.data_type in
    let below : 5 * size-DataType (array_type c.value.result.array.now) + 6 < 5 * size-DataType t + 2 = omega (arith, fixed_item_below _ _ kind) in
    (search (rules, below), (c.value.ensures.part, (in_fixed_list _ _ _ kind c.requires.form, within_fixed_item _ _ _ kind c.requires.columns)))

pub push_list-returns : goal.push_list-returns
push_list-returns t c =
    let a = c.args.array.now in
    let part = c.value.result in
    record { ok = appended c.push_part.result _ _ a.data_type (slot_at a.slots c.args.i) (slot.List (part_slots part)) _ _ c.is_valid.ensures c.value.ensures.slot (list_is false a.data_type _ (part_slots part) c.value.ensures.data_type) c.push_part.ensures.ok; kept = c.push_part.ensures.kept }

pub push_large_list-returns : goal.push_large_list-returns
push_large_list-returns t c =
    let a = c.args.array.now in
    let part = c.value.result in
    record { ok = appended c.push_part.result _ _ a.data_type (slot_at a.slots c.args.i) (slot.List (part_slots part)) _ _ c.is_valid.ensures c.value.ensures.slot (list_is true a.data_type _ (part_slots part) c.value.ensures.data_type) c.push_part.ensures.ok; kept = c.push_part.ensures.kept }

pub push_fixed_size_list-returns : goal.push_fixed_size_list-returns
push_fixed_size_list-returns t c =
    let a = c.args.array.now in
    let part = c.value.result in
    record { ok = appended c.push_part.result _ _ a.data_type (slot_at a.slots c.args.i) (slot.List (part_slots part)) _ _ c.is_valid.ensures c.value.ensures.slot (fixed_list_is a.data_type _ (part_slots part) c.value.ensures.data_type) c.push_part.ensures.ok; kept = c.push_part.ensures.kept }

pub push_dictionary-push_value-requires : goal.push_dictionary-push_value-requires
push_dictionary-push_value-requires t c =
    let a = c.args.array.now in
    let kind = c.values.ensures.data_type in
    let below : 5 * size-DataType (array_type c.values.result.now) + 3 < 5 * size-DataType a.data_type + 2 = omega (arith, value_below _ _ _ kind) in
    (search (rules, below), (search rules, (in_dictionary _ _ _ _ kind c.requires.form, within_value _ _ _ _ kind c.requires.columns)))

pub push_dictionary-returns-in-Some : goal.push_dictionary-returns-in-Some
push_dictionary-returns-in-Some t c =
    let a = c.args.array.now in
    let x = slot_at (array_slots c.values.result.now) c.in-Some.index in
    let is = looked_up_at a.slots _ a.items _ c.args.i c.in-Some.index c.keys.ensures.slots c.values.ensures.items c.requires.within c.in-Some.ensures in
    let k = c.values.ensures.data_type in
    record { ok = on_ok_weaker c.push_value.result (λ e. e ∙ ap (λ z. c.args.out.now.items ++ z) (value_is _ a.data_type _ x k ∙ ap (text a.data_type) is)) c.push_value.ensures.ok; kept = c.push_value.ensures.kept }

pub push_struct-push_object-requires : goal.push_struct-push_object-requires
push_struct-push_object-requires t c =
    let a = c.args.array.now in
    let kind = c.values.ensures.data_type in
    let below : 5 * children_depth c.values.result.now < 5 * size-DataType a.data_type + 2 = omega (arith, children_below _ _ _ kind) in
    (search (rules, below), (capacity _ _ _ _ kind (omega (arith, c.requires.within)), children_columns _ _ _ _ kind c.requires.columns))

pub push_struct-returns : goal.push_struct-returns
push_struct-returns t c =
    let a = c.args.array.now in
    let held : IsTrue (is_held (slot_at a.slots c.args.i)) = search rules in
    let is = c.values.ensures.slots c.args.i c.requires.within held in
    record { ok = on_ok_weaker c.push_object.result (λ e. e ∙ ap (λ z. c.args.out.now.items ++ z) (children_object _ _ _ c.args.i _ c.values.ensures.data_type c.requires.columns ∙ ap (text a.data_type) (sym is))) c.push_object.ensures.ok; kept = c.push_object.ensures.kept }

pub push_lists-push_list-requires : goal.push_lists-push_list-requires
push_lists-push_list-requires t c =
    let below : 5 * size-DataType c.args.array.now.data_type + 2 < 5 * size-DataType c.args.array.now.data_type + 3 = omega arith in
    (search (rules, below), (omega (arith, c.requires.order, c.requires.within), (c.requires.form, c.requires.columns)))

pub push_lists-loop-k-preserved : goal.push_lists-loop-k-preserved
push_lists-loop-k-preserved t c =
    let slots = c.args.array.now.slots in
    let f = text c.args.array.now.data_type in
    let xs = take (c.args.end - c.args.start) (drop c.args.start slots) in
    let n = part_length slots c.args.start c.args.end c.requires.order c.requires.within in
    let within : c.loop-k.k < length xs = omega (arith, n) in
    let here = map_at f xs c.loop-k.k slot.Null within ∙ ap f (part_at slots c.args.start c.args.end c.loop-k.k slot.Null c.requires.order c.requires.within (omega arith)) in
    record {
      text = joined_more c.args.out.now.items _ _ _ _ (map f xs) c.loop-k.k (omega (arith, map_length f xs, within)) here c.loop-k.invariant.text c.in_ok-push_comma.ensures.ok c.in_ok-push_list.ensures.ok;
      kept = starts_through c.push_list.new.out.items (starts_through c.push_comma.new.out.items c.loop-k.invariant.kept c.in_ok-push_comma.ensures.kept) c.in_ok-push_list.ensures.kept;
    }

pub push_large_lists-push_large_list-requires : goal.push_large_lists-push_large_list-requires
push_large_lists-push_large_list-requires t c =
    let below : 5 * size-DataType c.args.array.now.data_type + 2 < 5 * size-DataType c.args.array.now.data_type + 3 = omega arith in
    (search (rules, below), (omega (arith, c.requires.order, c.requires.within), (c.requires.form, c.requires.columns)))

pub push_large_lists-loop-k-preserved : goal.push_large_lists-loop-k-preserved
push_large_lists-loop-k-preserved t c =
    let slots = c.args.array.now.slots in
    let f = text c.args.array.now.data_type in
    let xs = take (c.args.end - c.args.start) (drop c.args.start slots) in
    let n = part_length slots c.args.start c.args.end c.requires.order c.requires.within in
    let within : c.loop-k.k < length xs = omega (arith, n) in
    let here = map_at f xs c.loop-k.k slot.Null within ∙ ap f (part_at slots c.args.start c.args.end c.loop-k.k slot.Null c.requires.order c.requires.within (omega arith)) in
    record {
      text = joined_more c.args.out.now.items _ _ _ _ (map f xs) c.loop-k.k (omega (arith, map_length f xs, within)) here c.loop-k.invariant.text c.in_ok-push_comma.ensures.ok c.in_ok-push_large_list.ensures.ok;
      kept = starts_through c.push_large_list.new.out.items (starts_through c.push_comma.new.out.items c.loop-k.invariant.kept c.in_ok-push_comma.ensures.kept) c.in_ok-push_large_list.ensures.kept;
    }

pub push_fixed_size_lists-push_fixed_size_list-requires : goal.push_fixed_size_lists-push_fixed_size_list-requires
push_fixed_size_lists-push_fixed_size_list-requires t c =
    let below : 5 * size-DataType c.args.array.now.data_type + 2 < 5 * size-DataType c.args.array.now.data_type + 3 = omega arith in
    (search (rules, below), (omega (arith, c.requires.order, c.requires.within), (c.requires.form, c.requires.columns)))

pub push_fixed_size_lists-loop-k-preserved : goal.push_fixed_size_lists-loop-k-preserved
push_fixed_size_lists-loop-k-preserved t c =
    let slots = c.args.array.now.slots in
    let f = text c.args.array.now.data_type in
    let xs = take (c.args.end - c.args.start) (drop c.args.start slots) in
    let n = part_length slots c.args.start c.args.end c.requires.order c.requires.within in
    let within : c.loop-k.k < length xs = omega (arith, n) in
    let here = map_at f xs c.loop-k.k slot.Null within ∙ ap f (part_at slots c.args.start c.args.end c.loop-k.k slot.Null c.requires.order c.requires.within (omega arith)) in
    record {
      text = joined_more c.args.out.now.items _ _ _ _ (map f xs) c.loop-k.k (omega (arith, map_length f xs, within)) here c.loop-k.invariant.text c.in_ok-push_comma.ensures.ok c.in_ok-push_fixed_size_list.ensures.ok;
      kept = starts_through c.push_fixed_size_list.new.out.items (starts_through c.push_comma.new.out.items c.loop-k.invariant.kept c.in_ok-push_comma.ensures.kept) c.in_ok-push_fixed_size_list.ensures.kept;
    }

pub push_dictionaries-push_dictionary-requires : goal.push_dictionaries-push_dictionary-requires
push_dictionaries-push_dictionary-requires t c =
    let below : 5 * size-DataType c.args.array.now.data_type + 2 < 5 * size-DataType c.args.array.now.data_type + 3 = omega arith in
    (search (rules, below), (omega (arith, c.requires.order, c.requires.within), (c.requires.form, c.requires.columns)))

pub push_dictionaries-loop-k-preserved : goal.push_dictionaries-loop-k-preserved
push_dictionaries-loop-k-preserved t c =
    let slots = c.args.array.now.slots in
    let f = text c.args.array.now.data_type in
    let xs = take (c.args.end - c.args.start) (drop c.args.start slots) in
    let n = part_length slots c.args.start c.args.end c.requires.order c.requires.within in
    let within : c.loop-k.k < length xs = omega (arith, n) in
    let here = map_at f xs c.loop-k.k slot.Null within ∙ ap f (part_at slots c.args.start c.args.end c.loop-k.k slot.Null c.requires.order c.requires.within (omega arith)) in
    record {
      text = joined_more c.args.out.now.items _ _ _ _ (map f xs) c.loop-k.k (omega (arith, map_length f xs, within)) here c.loop-k.invariant.text c.in_ok-push_comma.ensures.ok c.in_ok-push_dictionary.ensures.ok;
      kept = starts_through c.push_dictionary.new.out.items (starts_through c.push_comma.new.out.items c.loop-k.invariant.kept c.in_ok-push_comma.ensures.kept) c.in_ok-push_dictionary.ensures.kept;
    }

pub push_items-push_lists-requires : goal.push_items-push_lists-requires
push_items-push_lists-requires t c =
    let same : size-DataType c.in-List.array.data_type ≡ size-DataType (array_type c.args.array.now) = rw c.in-List.is refl in
    let below : 5 * size-DataType c.in-List.array.data_type + 3 < 5 * size-DataType (array_type c.args.array.now) + 5 = omega (arith, same) in
    (search (rules, below), (c.requires.order, (rw c.in-List.is at c.requires.within, (rw c.in-List.is at c.requires.form, rw c.in-List.is at c.requires.columns))))

pub push_items-push_large_lists-requires : goal.push_items-push_large_lists-requires
push_items-push_large_lists-requires t c =
    let same : size-DataType c.in-LargeList.array.data_type ≡ size-DataType (array_type c.args.array.now) = rw c.in-LargeList.is refl in
    let below : 5 * size-DataType c.in-LargeList.array.data_type + 3 < 5 * size-DataType (array_type c.args.array.now) + 5 = omega (arith, same) in
    (search (rules, below), (c.requires.order, (rw c.in-LargeList.is at c.requires.within, (rw c.in-LargeList.is at c.requires.form, rw c.in-LargeList.is at c.requires.columns))))

pub push_items-push_fixed_size_lists-requires : goal.push_items-push_fixed_size_lists-requires
push_items-push_fixed_size_lists-requires t c =
    let same : size-DataType c.in-FixedSizeList.array.data_type ≡ size-DataType (array_type c.args.array.now) = rw c.in-FixedSizeList.is refl in
    let below : 5 * size-DataType c.in-FixedSizeList.array.data_type + 3 < 5 * size-DataType (array_type c.args.array.now) + 5 = omega (arith, same) in
    (search (rules, below), (c.requires.order, (rw c.in-FixedSizeList.is at c.requires.within, (rw c.in-FixedSizeList.is at c.requires.form, rw c.in-FixedSizeList.is at c.requires.columns))))

pub push_items-push_dictionaries-requires : goal.push_items-push_dictionaries-requires
push_items-push_dictionaries-requires t c =
    let same : size-DataType c.in-Dictionary.array.data_type ≡ size-DataType (array_type c.args.array.now) = rw c.in-Dictionary.is refl in
    let below : 5 * size-DataType c.in-Dictionary.array.data_type + 3 < 5 * size-DataType (array_type c.args.array.now) + 5 = omega (arith, same) in
    (search (rules, below), (c.requires.order, (rw c.in-Dictionary.is at c.requires.within, (rw c.in-Dictionary.is at c.requires.form, rw c.in-Dictionary.is at c.requires.columns))))

pub push_part-returns-then-part : goal.push_part-returns-then-part
push_part-returns-then-part t c =
    let part = c.args.part.now in
    let f = text (array_type part.array.now) in
    record { ok = on_ok_weaker c.push.result (λ e. rw c.if-not-is_valid.false (e ∙ ap (λ z. c.args.out.now.items ++ array (map f z)) (sym (empty_part (array_slots part.array.now) part.start part.end c.if-part.true)))) c.push.ensures.ok; kept = c.push.ensures.kept }

pub push_items-push_structs-requires : goal.push_items-push_structs-requires
push_items-push_structs-requires t c =
    let same : size-DataType c.in-Struct.array.data_type ≡ size-DataType (array_type c.args.array.now) = rw c.in-Struct.is refl in
    let below : 5 * size-DataType c.in-Struct.array.data_type + 3 < 5 * size-DataType (array_type c.args.array.now) + 5 = omega (arith, same) in
    (search (rules, below), (c.requires.order, (rw c.in-Struct.is at c.requires.within, rw c.in-Struct.is at c.requires.columns)))

pub push_structs-push_struct-requires : goal.push_structs-push_struct-requires
push_structs-push_struct-requires t c =
    let below : 5 * size-DataType c.args.array.now.data_type + 2 < 5 * size-DataType c.args.array.now.data_type + 3 = omega arith in
    (search (rules, below), (omega (arith, c.requires.order, c.requires.within), c.requires.columns))

pub push_structs-loop-k-preserved : goal.push_structs-loop-k-preserved
push_structs-loop-k-preserved t c =
    let slots = c.args.array.now.slots in
    let f = text c.args.array.now.data_type in
    let xs = take (c.args.end - c.args.start) (drop c.args.start slots) in
    let n = part_length slots c.args.start c.args.end c.requires.order c.requires.within in
    let within : c.loop-k.k < length xs = omega (arith, n) in
    let here = map_at f xs c.loop-k.k slot.Null within ∙ ap f (part_at slots c.args.start c.args.end c.loop-k.k slot.Null c.requires.order c.requires.within (omega arith)) in
    record {
      text = joined_more c.args.out.now.items _ _ _ _ (map f xs) c.loop-k.k (omega (arith, map_length f xs, within)) here c.loop-k.invariant.text c.in_ok-push_comma.ensures.ok c.in_ok-push_struct.ensures.ok;
      kept = starts_through c.push_struct.new.out.items (starts_through c.push_comma.new.out.items c.loop-k.invariant.kept c.in_ok-push_comma.ensures.kept) c.in_ok-push_struct.ensures.kept;
    }

pub push_object-unreachable-requires : goal.push_object-unreachable-requires
push_object-unreachable-requires t c =
    let arrays = c.args.arrays.now in
    let k = c.loop-array.array-index in
    let none = none_is _ c.in_default.len_below in
    no_column arrays k c.array-item.result c.loop-array-test.true c.array-item.is (subst (AreColumns (drop k arrays)) none c.loop-array.invariant.columns)

pub push_object-split_at-requires : goal.push_object-split_at-requires
push_object-split_at-requires t c =
    let arrays = c.args.arrays.now in
    let prefix = first_is _ c.column-item.result c.in-len1-up.len_at_least c.column-item.is in
    (column_here arrays c.loop-array.array-index c.array-item.result _ _ _ c.loop-array-test.true c.array-item.is prefix c.loop-array.invariant.columns).0.0

pub push_object-push_value-requires : goal.push_object-push_value-requires
push_object-push_value-requires t c =
    let arrays = c.args.arrays.now in
    let k = c.loop-array.array-index in
    let prefix = first_is _ c.column-item.result c.in-len1-up.len_at_least c.column-item.is in
    let here = column_here arrays k c.array-item.result _ _ _ c.loop-array-test.true c.array-item.is prefix c.loop-array.invariant.columns in
    let below : 5 * size-DataType (array_type c.array-item.result) + 3 < 5 * children_depth arrays = omega (arith, child_below arrays k c.array-item.result c.loop-array-test.true c.array-item.is) in
    (search (rules, below), (search rules, (here.0.1.0, subst (AreWithin (array_type c.array-item.result)) (sym c.split_at.ensures.front) here.0.1.1)))

pub push_object-loop-array-preserved : goal.push_object-loop-array-preserved
push_object-loop-array-preserved t c =
    let arrays = c.args.arrays.now in
    let k = c.loop-array.array-index in
    let prefix = first_is _ c.column-item.result c.in-len1-up.len_at_least c.column-item.is in
    let here = column_here arrays k c.array-item.result _ _ _ c.loop-array-test.true c.array-item.is prefix c.loop-array.invariant.columns in
    record {
      columns = subst (AreColumns (drop (k + 1) arrays)) (sym c.split_at.ensures.back) here.1;
      text = ap (λ z. c.push_value.new.out.items ++ columns_text (drop (k + 1) arrays) z c.args.i) c.split_at.ensures.back
          ∙ text_more arrays k c.args.i c.array-item.result _ c.column-item.result _ _ _ _ _ c.loop-array-test.true c.array-item.is prefix c.loop-array.invariant.text
          c.in_ok-push_key.ensures.ok c.in_ok-push_value.ensures.ok;
      kept = starts_through c.push_value.new.out.items (starts_through c.push_key.new.out.items c.loop-array.invariant.kept c.in_ok-push_key.ensures.kept) c.in_ok-push_value.ensures.kept;
    }

pub push_object-returns : goal.push_object-returns
push_object-returns t c =
    let arrays = c.args.arrays.now in
    let filled : arrays ≡ [] → ⊥ = λ e. (let t : length arrays ≡ 0 = ap length e in absurd (grind (arith, nat_tests, t, c.is_empty.ensures, c.if-is_empty.false))) in
    record { ok = on_ok_weaker c.push-2.result (λ last. object_closed arrays c.loop-array.array-index c.args.i c.args.columns.now _ _ _ _ (omega arith) filled c.loop-array.invariant.text last) c.push-2.ensures.ok; kept = starts_through c.push-2.new.out.items c.loop-array.invariant.kept c.push-2.ensures.kept }

pub push_value-returns-in-Int32 : goal.push_value-returns-in-Int32
push_value-returns-in-Int32 t c =
    let a = c.in-Int32.array in
    let v = c.value-in-Int32.result in
    let fits : FitsSigned w32 v = search rules in
    let back : to_z w64 (of_z w64 (to_z w32 (of_z w32 v))) ≡ v = omega (arith, ints) in
    let held = ap (integer_text c.args.form.now) back ∙ plain_form primitive.Int32 c.args.form.now a.data_type v c.data_type-in-Int32.ensures.kind (rw c.in-Int32.is at c.requires.form) in
    record { ok = rw c.in-Int32.is (appended c.push_integer_if.result _ _ a.data_type (slot_at a.slots c.args.i) (slot.Integer v) _ _ c.is_valid-in-Int32.ensures c.value-in-Int32.ensures held c.push_integer_if.ensures.ok); kept = c.push_integer_if.ensures.kept }

pub push_value-returns-in-Int64 : goal.push_value-returns-in-Int64
push_value-returns-in-Int64 t c =
    let a = c.in-Int64.array in
    let v = c.value-in-Int64.result in
    let fits : FitsSigned w64 v = search rules in
    let back : to_z w64 (of_z w64 v) ≡ v = omega (arith, ints) in
    let held = ap (integer_text c.args.form.now) back ∙ plain_form primitive.Int64 c.args.form.now a.data_type v c.data_type-in-Int64.ensures.kind (rw c.in-Int64.is at c.requires.form) in
    record { ok = rw c.in-Int64.is (appended c.push_integer_if-in-Int64.result _ _ a.data_type (slot_at a.slots c.args.i) (slot.Integer v) _ _ c.is_valid-in-Int64.ensures c.value-in-Int64.ensures held c.push_integer_if-in-Int64.ensures.ok); kept = c.push_integer_if-in-Int64.ensures.kept }

pub push_value-push_list-requires : goal.push_value-push_list-requires
push_value-push_list-requires t c =
    let same : size-DataType c.in-List.array.data_type ≡ size-DataType (array_type c.args.array.now) = rw c.in-List.is refl in
    let below : 5 * size-DataType c.in-List.array.data_type + 2 < 5 * size-DataType (array_type c.args.array.now) + 3 = omega (arith, same) in
    (search (rules, below), (rw c.in-List.is at c.requires.within, (rw c.in-List.is at c.requires.form, rw c.in-List.is at c.requires.columns)))

pub push_value-push_large_list-requires : goal.push_value-push_large_list-requires
push_value-push_large_list-requires t c =
    let same : size-DataType c.in-LargeList.array.data_type ≡ size-DataType (array_type c.args.array.now) = rw c.in-LargeList.is refl in
    let below : 5 * size-DataType c.in-LargeList.array.data_type + 2 < 5 * size-DataType (array_type c.args.array.now) + 3 = omega (arith, same) in
    (search (rules, below), (rw c.in-LargeList.is at c.requires.within, (rw c.in-LargeList.is at c.requires.form, rw c.in-LargeList.is at c.requires.columns)))

pub push_value-push_fixed_size_list-requires : goal.push_value-push_fixed_size_list-requires
push_value-push_fixed_size_list-requires t c =
    let same : size-DataType c.in-FixedSizeList.array.data_type ≡ size-DataType (array_type c.args.array.now) = rw c.in-FixedSizeList.is refl in
    let below : 5 * size-DataType c.in-FixedSizeList.array.data_type + 2 < 5 * size-DataType (array_type c.args.array.now) + 3 = omega (arith, same) in
    (search (rules, below), (rw c.in-FixedSizeList.is at c.requires.within, (rw c.in-FixedSizeList.is at c.requires.form, rw c.in-FixedSizeList.is at c.requires.columns)))

pub push_value-push_dictionary-requires : goal.push_value-push_dictionary-requires
push_value-push_dictionary-requires t c =
    let same : size-DataType c.in-Dictionary.array.data_type ≡ size-DataType (array_type c.args.array.now) = rw c.in-Dictionary.is refl in
    let below : 5 * size-DataType c.in-Dictionary.array.data_type + 2 < 5 * size-DataType (array_type c.args.array.now) + 3 = omega (arith, same) in
    (search (rules, below), (rw c.in-Dictionary.is at c.requires.within, (rw c.in-Dictionary.is at c.requires.form, rw c.in-Dictionary.is at c.requires.columns)))

pub push_value-push_struct-requires : goal.push_value-push_struct-requires
push_value-push_struct-requires t c =
    let same : size-DataType c.in-Struct.array.data_type ≡ size-DataType (array_type c.args.array.now) = rw c.in-Struct.is refl in
    let below : 5 * size-DataType c.in-Struct.array.data_type + 2 < 5 * size-DataType (array_type c.args.array.now) + 3 = omega (arith, same) in
    (search (rules, below), (rw c.in-Struct.is at c.requires.within, rw c.in-Struct.is at c.requires.columns))
