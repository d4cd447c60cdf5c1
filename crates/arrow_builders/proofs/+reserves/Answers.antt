use Rattle.std.proofs.Common.{◌≢◌, ◌∙◌, arith, rules, refl, subst, get_or-set_other}
use Rattle.std.specs.Vec.{with_items}
use Rattle.std.proofs.lemmas.List.{length-set}
use Rattle.arrow_core.specs.declared.physical.PhysicalType.TheVariants as physical
use Rattle.arrow_flat.specs.Nested.{marks_node, lists_node}
use Rattle.arrow_flat.specs.Nodes.{NoLessSpare, HasSpare}
use Rattle.arrow_builders.specs.Calls.{Reserves, AllReserve}
use Rattle.arrow_builders.specs.Children.{all_nodes, all_slots}
use Rattle.arrow_builders.specs.MutableArrays.{builder_slots, nodes, slots_at}
use Rattle.arrow_builders.specs.Shapes.{shape}
use Rattle.arrow_builders.specs.declared.list.DynMutableListArray.{DynMutableListArray}
use Rattle.arrow_builders.specs.declared.large_list.DynMutableLargeListArray.{DynMutableLargeListArray}
use Rattle.arrow_builders.specs.declared.fixed_size_list.MutableFixedSizeListArray.{MutableFixedSizeListArray}
use Rattle.arrow_builders.specs.declared.structs.DynMutableStructArray.{DynMutableStructArray}
use Rattle.arrow_builders.specs.declared.array.MutableArray.{MutableArray, List as ListOf, LargeList, FixedSizeList, Struct}
use Rattle.arrow_builders.proofs.Growth.{AllZip-same, NoLessSpare-same}
use Rattle.arrow_builders.proofs.Heads.{same_slots}
use Rattle.arrow_builders.proofs.NestedCalls.{told, reserved, unreserved, all_unreserved, lists_same, fixed_lists_same, lists_slots, fixed_lists_slots}
use Rattle.arrow_builders.proofs.Rows.{nodes-record, slots_at-record, shape_same, slots_same, back_both}
use Rattle.arrow_builders.proofs.Upto.{Upto-start, Upto-weaken, Upto-set, Upto-step, Upto-map, Upto-slots, Upto-nodes, Upto-all}
use Rattle.arrow_builders.proofs.Flats.{is_flat}
use Rattle.arrow_builders.proofs.+reserves.Invariants.{Asked, Reserved}
use Rattle.arrow_builders.proofs.+reserves.Goals as goal

pub array::MutableArray::reserve_nodes-reserve_flat-requires : goal.array::MutableArray::reserve_nodes-reserve_flat-requires
array::MutableArray::reserve_nodes-reserve_flat-requires t c = is_flat c.args.self.now c.in_default.not-List c.in_default.not-LargeList c.in_default.not-FixedSizeList c.in_default.not-Struct

pub array::MutableArray::reserve_nodes-returns-in_default : goal.array::MutableArray::reserve_nodes-returns-in_default
array::MutableArray::reserve_nodes-returns-in_default t c = c.reserve_flat.ensures

pub array::MutableArray::reserve_nodes-returns-in-List : goal.array::MutableArray::reserve_nodes-returns-in-List
array::MutableArray::reserve_nodes-returns-in-List t c =
    let n = ListOf c.reserve_for.new.self in
    told (λ x y. Reserves c.args.additional x y c.reserve_for.result) c.args.self.now _ (ListOf c.in-List.builder) n c.in-List.is (search rules) (subst (λ (b : DynMutableListArray). Reserves c.args.additional (ListOf b) n c.reserve_for.result) c.in-List.builder-is c.reserve_for.ensures)

pub array::MutableArray::reserve_nodes-returns-in-LargeList : goal.array::MutableArray::reserve_nodes-returns-in-LargeList
array::MutableArray::reserve_nodes-returns-in-LargeList t c =
    let n = LargeList c.reserve_for-in-LargeList.new.self in
    told (λ x y. Reserves c.args.additional x y c.reserve_for-in-LargeList.result) c.args.self.now _ (LargeList c.in-LargeList.builder) n c.in-LargeList.is (search rules) (subst (λ (b : DynMutableLargeListArray). Reserves c.args.additional (LargeList b) n c.reserve_for-in-LargeList.result) c.in-LargeList.builder-is c.reserve_for-in-LargeList.ensures)

pub array::MutableArray::reserve_nodes-returns-in-FixedSizeList : goal.array::MutableArray::reserve_nodes-returns-in-FixedSizeList
array::MutableArray::reserve_nodes-returns-in-FixedSizeList t c =
    let n = FixedSizeList c.reserve_for-in-FixedSizeList.new.self in
    told (λ x y. Reserves c.args.additional x y c.reserve_for-in-FixedSizeList.result) c.args.self.now _ (FixedSizeList c.in-FixedSizeList.builder) n c.in-FixedSizeList.is (search rules) (subst (λ (b : MutableFixedSizeListArray). Reserves c.args.additional (FixedSizeList b) n c.reserve_for-in-FixedSizeList.result) c.in-FixedSizeList.builder-is c.reserve_for-in-FixedSizeList.ensures)

pub array::MutableArray::reserve_nodes-returns-in-Struct : goal.array::MutableArray::reserve_nodes-returns-in-Struct
array::MutableArray::reserve_nodes-returns-in-Struct t c =
    let n = Struct c.reserve_for-in-Struct.new.self in
    told (λ x y. Reserves c.args.additional x y c.reserve_for-in-Struct.result) c.args.self.now _ (Struct c.in-Struct.builder) n c.in-Struct.is (search rules) (subst (λ (b : DynMutableStructArray). Reserves c.args.additional (Struct b) n c.reserve_for-in-Struct.result) c.in-Struct.builder-is c.reserve_for-in-Struct.ensures)

pub list::DynMutableListArray::reserve_for-returns-in_err-reserve_for : goal.list::DynMutableListArray::reserve_for-returns-in_err-reserve_for
list::DynMutableListArray::reserve_for-returns-in_err-reserve_for t c =
    let b = c.args.self.now in
    let child = b.values.value in
    let m = c.reserve_for.new.self in
    let l = c.reserve_for.ensures in
    unreserved _ _ (lists_node b.lists) (lists_node m) (nodes child) (nodes child) (slots_at child) (slots_at child) refl refl refl refl (lists_same physical.List b.lists.data_type m.data_type (shape child) (shape child) l.data_type refl) c.args.additional
    c.in_err-reserve_for.field-0.0 c.from_residual.result c.from_residual.ensures.1 c.in_err-reserve_for.ensures.memory (lists_slots b.lists.lens m.lens (builder_slots child) (builder_slots child) l.lens refl) l.capacity refl (AllZip-same NoLessSpare NoLessSpare-same (nodes child))

pub list::DynMutableListArray::reserve_for-returns : goal.list::DynMutableListArray::reserve_for-returns
list::DynMutableListArray::reserve_for-returns t c =
    let b = c.args.self.now in
    let child = b.values.value in
    let m = c.reserve_for.new.self in
    let l = c.reserve_for.ensures in
    let new = c.reserve_nodes.new.self in
    let h : Reserves c.args.additional child new c.reserve_nodes.result = subst (λ (z : MutableArray). Reserves c.args.additional z new c.reserve_nodes.result) c.deref_mut.ensures.value c.reserve_nodes.ensures in
    reserved _ _ (lists_node b.lists) (lists_node m) (nodes child) (nodes new) (slots_at child) (slots_at new) refl refl refl refl (lists_same physical.List b.lists.data_type m.data_type (shape child) (shape new) l.data_type h.same_shape) c.args.additional
    c.reserve_nodes.result (lists_slots b.lists.lens m.lens (builder_slots child) (builder_slots new) l.lens (same_slots child new h.same_slots)) l.capacity c.in_ok-reserve_for.ensures.ok h.same_slots h.capacity h.ok h.memory

pub large_list::DynMutableLargeListArray::reserve_for-returns-in_err-reserve_for : goal.large_list::DynMutableLargeListArray::reserve_for-returns-in_err-reserve_for
large_list::DynMutableLargeListArray::reserve_for-returns-in_err-reserve_for t c =
    let b = c.args.self.now in
    let child = b.values.value in
    let m = c.reserve_for.new.self in
    let l = c.reserve_for.ensures in
    unreserved _ _ (lists_node b.lists) (lists_node m) (nodes child) (nodes child) (slots_at child) (slots_at child) refl refl refl refl (lists_same physical.LargeList b.lists.data_type m.data_type (shape child) (shape child) l.data_type refl) c.args.additional
    c.in_err-reserve_for.field-0.0 c.from_residual.result c.from_residual.ensures.1 c.in_err-reserve_for.ensures.memory (lists_slots b.lists.lens m.lens (builder_slots child) (builder_slots child) l.lens refl) l.capacity refl (AllZip-same NoLessSpare NoLessSpare-same (nodes child))

pub large_list::DynMutableLargeListArray::reserve_for-returns : goal.large_list::DynMutableLargeListArray::reserve_for-returns
large_list::DynMutableLargeListArray::reserve_for-returns t c =
    let b = c.args.self.now in
    let child = b.values.value in
    let m = c.reserve_for.new.self in
    let l = c.reserve_for.ensures in
    let new = c.reserve_nodes.new.self in
    let h : Reserves c.args.additional child new c.reserve_nodes.result = subst (λ (z : MutableArray). Reserves c.args.additional z new c.reserve_nodes.result) c.deref_mut.ensures.value c.reserve_nodes.ensures in
    reserved _ _ (lists_node b.lists) (lists_node m) (nodes child) (nodes new) (slots_at child) (slots_at new) refl refl refl refl (lists_same physical.LargeList b.lists.data_type m.data_type (shape child) (shape new) l.data_type h.same_shape) c.args.additional
    c.reserve_nodes.result (lists_slots b.lists.lens m.lens (builder_slots child) (builder_slots new) l.lens (same_slots child new h.same_slots)) l.capacity c.in_ok-reserve_for.ensures.ok h.same_slots h.capacity h.ok h.memory

pub fixed_size_list::MutableFixedSizeListArray::reserve_for-returns-in_err-reserve_for : goal.fixed_size_list::MutableFixedSizeListArray::reserve_for-returns-in_err-reserve_for
fixed_size_list::MutableFixedSizeListArray::reserve_for-returns-in_err-reserve_for t c =
    let b = c.args.self.now in
    let child = b.values.value in
    let m = c.reserve_for.new.self in
    let l = c.reserve_for.ensures in
    unreserved _ _ (marks_node b.marks) (marks_node m) (nodes child) (nodes child) (slots_at child) (slots_at child) refl refl refl refl (fixed_lists_same b.marks.data_type m.data_type (shape child) (shape child) l.data_type refl) c.args.additional
    c.in_err-reserve_for.field-0.0 c.from_residual.result c.from_residual.ensures.1 c.in_err-reserve_for.ensures.memory (fixed_lists_slots b.marks.booleans m.booleans b.marks.data_type m.data_type (builder_slots child) (builder_slots child) l.booleans l.data_type refl) l.capacity refl (AllZip-same NoLessSpare NoLessSpare-same (nodes child))

pub fixed_size_list::MutableFixedSizeListArray::reserve_for-returns : goal.fixed_size_list::MutableFixedSizeListArray::reserve_for-returns
fixed_size_list::MutableFixedSizeListArray::reserve_for-returns t c =
    let b = c.args.self.now in
    let child = b.values.value in
    let m = c.reserve_for.new.self in
    let l = c.reserve_for.ensures in
    let new = c.reserve_nodes.new.self in
    let h : Reserves c.args.additional child new c.reserve_nodes.result = subst (λ (z : MutableArray). Reserves c.args.additional z new c.reserve_nodes.result) c.deref_mut.ensures.value c.reserve_nodes.ensures in
    reserved _ _ (marks_node b.marks) (marks_node m) (nodes child) (nodes new) (slots_at child) (slots_at new) refl refl refl refl (fixed_lists_same b.marks.data_type m.data_type (shape child) (shape new) l.data_type h.same_shape) c.args.additional
    c.reserve_nodes.result (fixed_lists_slots b.marks.booleans m.booleans b.marks.data_type m.data_type (builder_slots child) (builder_slots new) l.booleans l.data_type (same_slots child new h.same_slots)) l.capacity c.in_ok-reserve_for.ensures.ok h.same_slots h.capacity h.ok h.memory

pub structs::DynMutableStructArray::reserve_for-returns-in_err-reserve_for : goal.structs::DynMutableStructArray::reserve_for-returns-in_err-reserve_for
structs::DynMutableStructArray::reserve_for-returns-in_err-reserve_for t c =
    let b = c.args.self.now in
    let d : DynMutableStructArray = record { marks = c.reserve_for.new.self; values = b.values } in
    let l = c.reserve_for.ensures in
    unreserved (Struct b) (Struct d) (marks_node b.marks) (marks_node d.marks) (all_nodes b.values.items) (all_nodes d.values.items) (all_slots b.values.items) (all_slots d.values.items)
    (nodes-record b) (nodes-record d) (slots_at-record b) (slots_at-record d) (shape_same b d l.data_type refl) c.args.additional
    c.in_err-reserve_for.field-0.0 c.from_residual.result c.from_residual.ensures.1 c.in_err-reserve_for.ensures.memory (slots_same b d l.booleans refl) l.capacity refl (AllZip-same NoLessSpare NoLessSpare-same (all_nodes b.values.items))

pub structs::DynMutableStructArray::reserve_for-returns : goal.structs::DynMutableStructArray::reserve_for-returns
structs::DynMutableStructArray::reserve_for-returns t c =
    let b = c.args.self.now in
    let d : DynMutableStructArray = record { marks = c.reserve_for.new.self; values = with_items b.values c.reserve_all.new.children } in
    let l = c.reserve_for.ensures in
    let a = c.reserve_all.ensures in
    let h : AllReserve c.args.additional b.values.items d.values.items c.reserve_all.result = back_both (λ xs ys. AllReserve c.args.additional xs ys c.reserve_all.result) b.values c.deref_mut.result.now c.reserve_all.new.children a.shapes c.deref_mut.ensures.value a in
    reserved (Struct b) (Struct d) (marks_node b.marks) (marks_node d.marks) (all_nodes b.values.items) (all_nodes d.values.items) (all_slots b.values.items) (all_slots d.values.items)
    (nodes-record b) (nodes-record d) (slots_at-record b) (slots_at-record d) (shape_same b d l.data_type h.shapes) c.args.additional
    c.reserve_all.result (slots_same b d l.booleans h.slots) l.capacity c.in_ok-reserve_for.ensures.ok h.same_slots h.capacity h.ok h.memory

pub structs::reserve_all-loop-i-init : goal.structs::reserve_all-loop-i-init
structs::reserve_all-loop-i-init t c = record { kept = search rules; each = Upto-start (Reserved c.args.additional) c.args.children.now }

pub structs::reserve_all-loop-i-preserved : goal.structs::reserve_all-loop-i-preserved
structs::reserve_all-loop-i-preserved t c =
    let inv = c.loop-i.invariant in
    let e = c.in_ok-reserve_nodes.ensures in
    record {
      kept = (length-set _ _ _ ∙ inv.kept.0, λ k d h. let ne : k ≢ c.loop-i.i = omega arith in rw get_or-set_other (inv.kept.1 k d (omega arith)));
      each = Upto-step (Reserved c.args.additional) c.loop-i.i _ _ c.loop-i.children c.index-children-i.result c.reserve_nodes.new.self (omega arith) (omega arith) (record { asked = record { same_shape = e.same_shape; at_nodes = e.same_slots; capacity = e.capacity }; has_capacity = e.ok }) inv.each;
    }

-- up to the child that failed, and then that child
pub structs::reserve_all-returns-in_err-reserve_nodes : goal.structs::reserve_all-returns-in_err-reserve_nodes
structs::reserve_all-returns-in_err-reserve_nodes t c =
    let e = c.in_err-reserve_nodes.ensures in
    let u = Upto-set Asked c.loop-i.i _ c.loop-i.children c.index-children-i.result c.reserve_nodes.new.self (omega arith) (record { same_shape = e.same_shape; at_nodes = e.same_slots; capacity = e.capacity }) (Upto-weaken (Reserved c.args.additional) Asked (λ x y h. h.asked) _ _ _ c.loop-i.invariant.each) in
    all_unreserved c.args.additional _ _ c.in_err-reserve_nodes.field-0.0 c.from_residual.result c.from_residual.ensures.1 e.memory (Upto-map Asked shape (λ x y h. h.same_shape) _ _ _ u)
    (Upto-map Asked builder_slots (λ x y h. same_slots x y h.at_nodes) _ _ _ u) (Upto-slots Asked (λ x y h. h.at_nodes) _ _ _ u) (Upto-nodes Asked NoLessSpare NoLessSpare-same (λ x y h. h.capacity) _ _ _ u)

pub structs::reserve_all-returns : goal.structs::reserve_all-returns
structs::reserve_all-returns t c =
    let R = Reserved c.args.additional in
    let u = c.loop-i.invariant.each in
    record {
      shapes = Upto-map R shape (λ x y h. h.asked.same_shape) _ _ _ u;
      slots = Upto-map R builder_slots (λ x y h. same_slots x y h.asked.at_nodes) _ _ _ u;
      same_slots = Upto-slots R (λ x y h. h.asked.at_nodes) _ _ _ u;
      capacity = Upto-nodes R NoLessSpare NoLessSpare-same (λ x y h. h.asked.capacity) _ _ _ u;
      ok = Upto-all R (HasSpare c.args.additional) (λ x y h. h.has_capacity) _ _ _ (omega arith) u;
      memory = tt;
    }
