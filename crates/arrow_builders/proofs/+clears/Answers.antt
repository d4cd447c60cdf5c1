use Rattle.std.proofs.Common.{◌≢◌, ◌∙◌, arith, rules, refl, subst, get_or-set_other}
use Rattle.std.proofs.lemmas.List.{length-set}
use Rattle.std.specs.Vec.{with_items}
use Rattle.arrow_core.specs.declared.physical.PhysicalType.TheVariants as physical
use Rattle.arrow_flat.specs.Nested.{lists_node, marks_node}
use Rattle.arrow_flat.specs.Nodes.{Emptied}
use Rattle.arrow_builders.specs.Calls.{Clears, AllClear}
use Rattle.arrow_builders.specs.Children.{all_nodes, all_slots}
use Rattle.arrow_builders.specs.MutableArrays.{nodes, slots_at}
use Rattle.arrow_builders.specs.Shapes.{shape}
use Rattle.arrow_builders.specs.declared.list.DynMutableListArray.{DynMutableListArray}
use Rattle.arrow_builders.specs.declared.large_list.DynMutableLargeListArray.{DynMutableLargeListArray}
use Rattle.arrow_builders.specs.declared.fixed_size_list.MutableFixedSizeListArray.{MutableFixedSizeListArray}
use Rattle.arrow_builders.specs.declared.structs.DynMutableStructArray.{DynMutableStructArray}
use Rattle.arrow_builders.specs.declared.array.MutableArray.{MutableArray, List as ListOf, LargeList, FixedSizeList, Struct}
use Rattle.arrow_builders.proofs.NestedCalls.{told, cleared, lists_same, fixed_lists_same}
use Rattle.arrow_builders.proofs.Rows.{nodes-record, slots_at-record, shape_same, back_both}
use Rattle.arrow_builders.proofs.Upto.{Upto-start, Upto-step, Upto-map, Upto-nodes_all}
use Rattle.arrow_builders.proofs.Flats.{is_flat}
use Rattle.arrow_builders.proofs.+clears.Goals as goal

pub array::MutableArray::clear_nodes-clear_flat-requires : goal.array::MutableArray::clear_nodes-clear_flat-requires
array::MutableArray::clear_nodes-clear_flat-requires t c = is_flat c.args.self.now c.in_default.not-List c.in_default.not-LargeList c.in_default.not-FixedSizeList c.in_default.not-Struct

pub array::MutableArray::clear_nodes-returns-in_default : goal.array::MutableArray::clear_nodes-returns-in_default
array::MutableArray::clear_nodes-returns-in_default t c = c.clear_flat.ensures

pub array::MutableArray::clear_nodes-returns-in-List : goal.array::MutableArray::clear_nodes-returns-in-List
array::MutableArray::clear_nodes-returns-in-List t c =
    let n = ListOf c.clear.new.self in
    told Clears c.args.self.now _ (ListOf c.in-List.builder) n c.in-List.is (search rules) (subst (λ (b : DynMutableListArray). Clears (ListOf b) n) c.in-List.builder-is c.clear.ensures)

pub array::MutableArray::clear_nodes-returns-in-LargeList : goal.array::MutableArray::clear_nodes-returns-in-LargeList
array::MutableArray::clear_nodes-returns-in-LargeList t c =
    let n = LargeList c.clear-in-LargeList.new.self in
    told Clears c.args.self.now _ (LargeList c.in-LargeList.builder) n c.in-LargeList.is (search rules) (subst (λ (b : DynMutableLargeListArray). Clears (LargeList b) n) c.in-LargeList.builder-is c.clear-in-LargeList.ensures)

pub array::MutableArray::clear_nodes-returns-in-FixedSizeList : goal.array::MutableArray::clear_nodes-returns-in-FixedSizeList
array::MutableArray::clear_nodes-returns-in-FixedSizeList t c =
    let n = FixedSizeList c.clear-in-FixedSizeList.new.self in
    told Clears c.args.self.now _ (FixedSizeList c.in-FixedSizeList.builder) n c.in-FixedSizeList.is (search rules) (subst (λ (b : MutableFixedSizeListArray). Clears (FixedSizeList b) n) c.in-FixedSizeList.builder-is c.clear-in-FixedSizeList.ensures)

pub array::MutableArray::clear_nodes-returns-in-Struct : goal.array::MutableArray::clear_nodes-returns-in-Struct
array::MutableArray::clear_nodes-returns-in-Struct t c =
    let n = Struct c.clear-in-Struct.new.self in
    told Clears c.args.self.now _ (Struct c.in-Struct.builder) n c.in-Struct.is (search rules) (subst (λ (b : DynMutableStructArray). Clears (Struct b) n) c.in-Struct.builder-is c.clear-in-Struct.ensures)

pub list::DynMutableListArray::clear-returns : goal.list::DynMutableListArray::clear-returns
list::DynMutableListArray::clear-returns t c =
    let b = c.args.self.now in
    let l = c.clear.ensures in
    let new = c.clear_nodes.new.self in
    let h : Clears b.values.value new = subst (λ (z : MutableArray). Clears z new) c.deref_mut.ensures.value c.clear_nodes.ensures in
    cleared _ _ (lists_node b.lists) (lists_node c.clear.new.self) (nodes b.values.value) (nodes new) (slots_at b.values.value) (slots_at new) refl refl refl refl
    (lists_same physical.List b.lists.data_type c.clear.new.self.data_type (shape b.values.value) (shape new) l.data_type h.same_shape) l.capacity h.capacity

pub large_list::DynMutableLargeListArray::clear-returns : goal.large_list::DynMutableLargeListArray::clear-returns
large_list::DynMutableLargeListArray::clear-returns t c =
    let b = c.args.self.now in
    let l = c.clear.ensures in
    let new = c.clear_nodes.new.self in
    let h : Clears b.values.value new = subst (λ (z : MutableArray). Clears z new) c.deref_mut.ensures.value c.clear_nodes.ensures in
    cleared _ _ (lists_node b.lists) (lists_node c.clear.new.self) (nodes b.values.value) (nodes new) (slots_at b.values.value) (slots_at new) refl refl refl refl
    (lists_same physical.LargeList b.lists.data_type c.clear.new.self.data_type (shape b.values.value) (shape new) l.data_type h.same_shape) l.capacity h.capacity

pub fixed_size_list::MutableFixedSizeListArray::clear-returns : goal.fixed_size_list::MutableFixedSizeListArray::clear-returns
fixed_size_list::MutableFixedSizeListArray::clear-returns t c =
    let b = c.args.self.now in
    let l = c.clear.ensures in
    let new = c.clear_nodes.new.self in
    let h : Clears b.values.value new = subst (λ (z : MutableArray). Clears z new) c.deref_mut.ensures.value c.clear_nodes.ensures in
    cleared _ _ (marks_node b.marks) (marks_node c.clear.new.self) (nodes b.values.value) (nodes new) (slots_at b.values.value) (slots_at new) refl refl refl refl
    (fixed_lists_same b.marks.data_type c.clear.new.self.data_type (shape b.values.value) (shape new) l.data_type h.same_shape) l.capacity h.capacity

pub structs::DynMutableStructArray::clear-returns : goal.structs::DynMutableStructArray::clear-returns
structs::DynMutableStructArray::clear-returns t c =
    let b = c.args.self.now in
    let d : DynMutableStructArray = record { marks = c.clear.new.self; values = with_items b.values c.clear_all.new.children } in
    let a = c.clear_all.ensures in
    let back : AllClear b.values.items d.values.items = back_both AllClear b.values c.deref_mut.result.now c.clear_all.new.children a.shapes c.deref_mut.ensures.value a in
    cleared (Struct b) (Struct d) (marks_node b.marks) (marks_node d.marks) (all_nodes b.values.items) (all_nodes d.values.items) (all_slots b.values.items) (all_slots d.values.items)
    (nodes-record b) (nodes-record d) (slots_at-record b) (slots_at-record d) (shape_same b d c.clear.ensures.data_type back.shapes) c.clear.ensures.capacity back.capacity

pub structs::clear_all-loop-i-init : goal.structs::clear_all-loop-i-init
structs::clear_all-loop-i-init t c = record { kept = search rules; each = Upto-start Clears c.args.children.now }

pub structs::clear_all-loop-i-preserved : goal.structs::clear_all-loop-i-preserved
structs::clear_all-loop-i-preserved t c =
    let inv = c.loop-i.invariant in
    record {
      kept = (length-set _ _ _ ∙ inv.kept.0, λ k d h. let ne : k ≢ c.loop-i.i = omega arith in rw get_or-set_other (inv.kept.1 k d (omega arith)));
      each = Upto-step Clears c.loop-i.i _ _ c.loop-i.children c.index-children-i.result c.clear_nodes.new.self (omega arith) (omega arith) c.clear_nodes.ensures inv.each;
    }

pub structs::clear_all-returns : goal.structs::clear_all-returns
structs::clear_all-returns t c = record {
  shapes = Upto-map Clears shape (λ x y h. h.same_shape) _ _ _ c.loop-i.invariant.each;
  capacity = Upto-nodes_all Clears Emptied (λ x y h. h.capacity) _ _ _ (omega arith) c.loop-i.invariant.each;
}
