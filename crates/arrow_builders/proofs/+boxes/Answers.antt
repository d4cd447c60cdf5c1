use Rattle.std.proofs.Common.{inl, Ok, Err, ◌≡◌, ◌≢◌, ◌∙◌, length, map, arith, sym, ap, rules, refl, subst, Some, false, true, All, List, get_or, get_or-set_other}
use Rattle.std.specs.Vec.{with_items}
use Rattle.std.proofs.lemmas.List.{length-set, map-id}
use Rattle.std.proofs.lemmas.List.Elements.{All-cons}
use Rattle.arrow_core.specs.declared.error.Error.TheVariants.{OutOfMemory}
use Rattle.arrow_array.specs.Arrays.{array_type, array_slots, dictionaries_of}
use Rattle.arrow_array.specs.Columns.{NestedColumn}
use Rattle.arrow_array.specs.FixedLists.{FixedListFits}
use Rattle.arrow_array.specs.Lists.{ListColumn, ListFits}
use Rattle.arrow_array.specs.Parts.{IsRefusalOf}
use Rattle.arrow_array.specs.Structs.{StructFits, record_at}
use Rattle.arrow_array.specs.declared.array.Array.{Array}
use Rattle.arrow_array.specs.declared.array.Array.TheVariants as array
use Rattle.arrow_core.specs.declared.physical.PhysicalType.TheVariants as physical
use Rattle.arrow_builders.specs.Calls.{Boxes}
use Rattle.arrow_builders.specs.Children.{all_nodes, AllFit}
use Rattle.arrow_builders.specs.Fits.{ChildrenFit}
use Rattle.arrow_builders.specs.MutableArrays.{builder_type, builder_slots, builder_dictionaries, nodes}
use Rattle.arrow_flat.specs.Nested.{lists_node, marks_node}
use Rattle.arrow_flat.specs.Nodes.{IsEmpty}
use Rattle.arrow_builders.specs.Shapes.{shape}
use Rattle.arrow_builders.specs.declared.list.DynMutableListArray.{DynMutableListArray}
use Rattle.arrow_builders.specs.declared.large_list.DynMutableLargeListArray.{DynMutableLargeListArray}
use Rattle.arrow_builders.specs.declared.fixed_size_list.MutableFixedSizeListArray.{MutableFixedSizeListArray}
use Rattle.arrow_builders.specs.declared.structs.DynMutableStructArray.{DynMutableStructArray}
use Rattle.arrow_builders.specs.declared.array.MutableArray.{MutableArray, List as ListOf, LargeList, FixedSizeList, Struct}
use Rattle.arrow_builders.proofs.Boxed.{refusal, refusal_of, accepted, shown_slots, always, to_parts, from_parts, same_lists, to_fixed_parts, from_fixed_parts, same_fixed_lists, all_fit_at, told_step, told_all, lists_normalized}
use Rattle.arrow_builders.proofs.NestedCalls.{told, boxed_as, refused_as, unboxed, all_unboxed, shown, no_offsets, values_are, lists_same, fixed_lists_same}
use Rattle.arrow_builders.proofs.OtherFits.{record_parts, records_fit}
use Rattle.arrow_builders.proofs.Rows.{shape_same, slots-record, dictionaries-record, fit-record, nodes_of, shapes_back, items_back}
use Rattle.arrow_flat.proofs.Slots.{slots_of-frozen}
use Rattle.arrow_builders.proofs.Upto.{Upto-start, Upto-weaken, Upto-next, Upto-set, Upto-step, Upto-map, Upto-all, Upto-fit}
use Rattle.arrow_builders.proofs.Flats.{is_flat}
use Rattle.arrow_builders.proofs.+boxes.Invariants.{Asked, Boxed}
use Rattle.arrow_builders.proofs.+boxes.Goals as goal

pub array::MutableArray::box_nodes-box_flat-requires : goal.array::MutableArray::box_nodes-box_flat-requires
array::MutableArray::box_nodes-box_flat-requires t c = is_flat c.args.self.now c.in_default.not-List c.in_default.not-LargeList c.in_default.not-FixedSizeList c.in_default.not-Struct

pub array::MutableArray::box_nodes-returns-in_default : goal.array::MutableArray::box_nodes-returns-in_default
array::MutableArray::box_nodes-returns-in_default t c = c.box_flat.ensures

pub array::MutableArray::box_nodes-returns-in-Ok : goal.array::MutableArray::box_nodes-returns-in-Ok
array::MutableArray::box_nodes-returns-in-Ok t c =
    let n = ListOf c.as_box.new.self in
    let x = ListOf c.in-List.builder in
    let a = c.in-Ok.array in
    told (λ x y. Boxes (λ (z : Array). z) x y (Ok (array.List a))) c.args.self.now _ x n c.in-List.is (search rules)
    (boxed_as array.List x n a (subst (λ (b : DynMutableListArray). Boxes array.List (ListOf b) n (Ok a)) c.in-List.builder-is c.in-Ok.ensures))

pub array::MutableArray::box_nodes-returns-in-Err : goal.array::MutableArray::box_nodes-returns-in-Err
array::MutableArray::box_nodes-returns-in-Err t c =
    let n = ListOf c.as_box.new.self in
    let x = ListOf c.in-List.builder in
    let a = c.in-Err.error in
    told (λ x y. Boxes (λ (z : Array). z) x y (Err a)) c.args.self.now _ x n c.in-List.is (search rules)
    (refused_as array.List x n a (subst (λ (b : DynMutableListArray). Boxes array.List (ListOf b) n (Err a)) c.in-List.builder-is c.in-Err.ensures))

pub array::MutableArray::box_nodes-returns-in-Ok-as_box : goal.array::MutableArray::box_nodes-returns-in-Ok-as_box
array::MutableArray::box_nodes-returns-in-Ok-as_box t c =
    let n = LargeList c.as_box-in-LargeList.new.self in
    let x = LargeList c.in-LargeList.builder in
    let a = c.in-Ok-as_box.array in
    told (λ x y. Boxes (λ (z : Array). z) x y (Ok (array.LargeList a))) c.args.self.now _ x n c.in-LargeList.is (search rules)
    (boxed_as array.LargeList x n a (subst (λ (b : DynMutableLargeListArray). Boxes array.LargeList (LargeList b) n (Ok a)) c.in-LargeList.builder-is c.in-Ok-as_box.ensures))

pub array::MutableArray::box_nodes-returns-in-Err-as_box : goal.array::MutableArray::box_nodes-returns-in-Err-as_box
array::MutableArray::box_nodes-returns-in-Err-as_box t c =
    let n = LargeList c.as_box-in-LargeList.new.self in
    let x = LargeList c.in-LargeList.builder in
    let a = c.in-Err-as_box.error in
    told (λ x y. Boxes (λ (z : Array). z) x y (Err a)) c.args.self.now _ x n c.in-LargeList.is (search rules)
    (refused_as array.LargeList x n a (subst (λ (b : DynMutableLargeListArray). Boxes array.LargeList (LargeList b) n (Err a)) c.in-LargeList.builder-is c.in-Err-as_box.ensures))

pub array::MutableArray::box_nodes-returns-in-Ok-as_box-2 : goal.array::MutableArray::box_nodes-returns-in-Ok-as_box-2
array::MutableArray::box_nodes-returns-in-Ok-as_box-2 t c =
    let n = FixedSizeList c.as_box-in-FixedSizeList.new.self in
    let x = FixedSizeList c.in-FixedSizeList.builder in
    let a = c.in-Ok-as_box-2.array in
    told (λ x y. Boxes (λ (z : Array). z) x y (Ok (array.FixedSizeList a))) c.args.self.now _ x n c.in-FixedSizeList.is (search rules)
    (boxed_as array.FixedSizeList x n a (subst (λ (b : MutableFixedSizeListArray). Boxes array.FixedSizeList (FixedSizeList b) n (Ok a)) c.in-FixedSizeList.builder-is c.in-Ok-as_box-2.ensures))

pub array::MutableArray::box_nodes-returns-in-Err-as_box-2 : goal.array::MutableArray::box_nodes-returns-in-Err-as_box-2
array::MutableArray::box_nodes-returns-in-Err-as_box-2 t c =
    let n = FixedSizeList c.as_box-in-FixedSizeList.new.self in
    let x = FixedSizeList c.in-FixedSizeList.builder in
    let a = c.in-Err-as_box-2.error in
    told (λ x y. Boxes (λ (z : Array). z) x y (Err a)) c.args.self.now _ x n c.in-FixedSizeList.is (search rules)
    (refused_as array.FixedSizeList x n a (subst (λ (b : MutableFixedSizeListArray). Boxes array.FixedSizeList (FixedSizeList b) n (Err a)) c.in-FixedSizeList.builder-is c.in-Err-as_box-2.ensures))

pub array::MutableArray::box_nodes-returns-in-Ok-as_box-3 : goal.array::MutableArray::box_nodes-returns-in-Ok-as_box-3
array::MutableArray::box_nodes-returns-in-Ok-as_box-3 t c =
    let n = Struct c.as_box-in-Struct.new.self in
    let x = Struct c.in-Struct.builder in
    let a = c.in-Ok-as_box-3.array in
    told (λ x y. Boxes (λ (z : Array). z) x y (Ok (array.Struct a))) c.args.self.now _ x n c.in-Struct.is (search rules)
    (boxed_as array.Struct x n a (subst (λ (b : DynMutableStructArray). Boxes array.Struct (Struct b) n (Ok a)) c.in-Struct.builder-is c.in-Ok-as_box-3.ensures))

pub array::MutableArray::box_nodes-returns-in-Err-as_box-3 : goal.array::MutableArray::box_nodes-returns-in-Err-as_box-3
array::MutableArray::box_nodes-returns-in-Err-as_box-3 t c =
    let n = Struct c.as_box-in-Struct.new.self in
    let x = Struct c.in-Struct.builder in
    let a = c.in-Err-as_box-3.error in
    told (λ x y. Boxes (λ (z : Array). z) x y (Err a)) c.args.self.now _ x n c.in-Struct.is (search rules)
    (refused_as array.Struct x n a (subst (λ (b : DynMutableStructArray). Boxes array.Struct (Struct b) n (Err a)) c.in-Struct.builder-is c.in-Err-as_box-3.ensures))

pub list::DynMutableListArray::as_box-returns-in_err-values : goal.list::DynMutableListArray::as_box-returns-in_err-values
list::DynMutableListArray::as_box-returns-in_err-values t c =
    let b = c.args.self.now in
    let child = b.values.value in
    let new = c.box_nodes.new.self in
    let same : c.deref_mut.result.now ≡ child = c.deref_mut.ensures.value in
    let e = c.in_err-values.field-0.0 in
    let h : IsRefusalOf (ChildrenFit child) e = subst (λ (x : MutableArray). IsRefusalOf (ChildrenFit x) e) same c.in_err-values.ensures.err in
    unboxed array.List (ListOf b) _ e c.from_residual.result c.from_residual.ensures.1 (lists_same physical.List b.lists.data_type b.lists.data_type (shape child) (shape new) refl (c.box_nodes.ensures.same_shape ∙ ap shape same))
    (refusal_of (ChildrenFit child) (ChildrenFit (ListOf b)) e (λ q. q.below) h)

pub list::DynMutableListArray::as_box-returns-in_err-data_type : goal.list::DynMutableListArray::as_box-returns-in_err-data_type
list::DynMutableListArray::as_box-returns-in_err-data_type t c =
    let b = c.args.self.now in
    let r = c.from_residual-in_err-data_type in
    unboxed array.List (ListOf b) _ c.in_err-data_type.field-0.0 r.result r.ensures.1 (lists_same physical.List b.lists.data_type c.take.new.self.data_type (shape b.values.value) (shape c.box_nodes.new.self) c.take.ensures.data_type (c.box_nodes.ensures.same_shape ∙ ap shape c.deref_mut.ensures.value)) (inl c.in_err-data_type.ensures.memory)

pub list::DynMutableListArray::as_box-try_from_rising-requires : goal.list::DynMutableListArray::as_box-try_from_rising-requires
list::DynMutableListArray::as_box-try_from_rising-requires t c = rw (map-id c.in_ok-data_type.offsets.items) at c.in_ok-data_type.ensures.rising

pub list::DynMutableListArray::as_box-returns : goal.list::DynMutableListArray::as_box-returns
list::DynMutableListArray::as_box-returns t c =
    let b = c.args.self.now in
    let child = b.values.value in
    let same : c.deref_mut.result.now ≡ child = c.deref_mut.ensures.value in
    let te = c.in_ok-data_type.ensures.same_type in
    let ie : array_type c.in_ok-values.values ≡ builder_type child = c.in_ok-values.ensures.same_type ∙ ap builder_type same in
    let de : dictionaries_of c.in_ok-values.values ≡ builder_dictionaries child = c.in_ok-values.ensures.same_dictionaries ∙ ap builder_dictionaries same in
    let ye : array_slots c.in_ok-values.values ≡ builder_slots child = c.in_ok-values.ensures.same_slots ∙ ap builder_slots same in
    let ve = c.in_ok-data_type.ensures.validity in
    let ls = b.lists.lens in
    let oe = sym (map-id c.in_ok-data_type.offsets.items) ∙ c.in_ok-data_type.ensures.offsets in
    let ne : c.in_ok-data_type.offsets.len ≡ length c.in_ok-data_type.offsets.items = omega (arith, c.in_ok-data_type.offsets.ok.0) in
    let parts = ListFits false c.in_ok-data_type.data_type (array_type c.in_ok-values.values) c.in_ok-data_type.offsets.items (array_slots c.in_ok-values.values) (Some c.in_ok-data_type.validity) in
    let below : ChildrenFit child = subst ChildrenFit same c.in_ok-values.ensures.fits in
    let m = c.take.new.self in
    let new = c.box_nodes.new.self in
    let first : IsEmpty (lists_node m) = record { slots = ap length c.in_ok-data_type.ensures.lens; bytes = refl } in
    record {
      same_shape = lists_same physical.List b.lists.data_type m.data_type (shape child) (shape new) c.take.ensures.data_type (c.box_nodes.ensures.same_shape ∙ ap shape same);
      same_type = shown (λ (a : ListColumn). a.data_type) c.try_from_rising.result _ _ c.try_from_rising.ensures.data_type te;
      same_slots = shown_slots (λ (a : ListColumn). a.slots) parts c.try_from_rising.result _ _ c.try_from_rising.ensures.slots c.try_from_rising.ensures.fits (λ p. same_lists false b.lists.data_type c.in_ok-data_type.data_type (builder_type child) (array_type c.in_ok-values.values) ls c.in_ok-data_type.offsets.items (builder_slots child) (array_slots c.in_ok-values.values) c.in_ok-data_type.validity c.in_ok-data_type.offsets.len te ie oe ye ve ne p);
      same_dictionaries = shown (λ (a : ListColumn). a.dictionaries) c.try_from_rising.result _ _ c.try_from_rising.ensures.dictionaries de;
      normalized = λ tight. lists_normalized (λ (a : ListColumn). a.offsets) (λ (a : ListColumn). a.items) c.try_from_rising.result _ ls _ (builder_slots child) oe ye tight.0 c.try_from_rising.ensures.offsets c.try_from_rising.ensures.items;
      emptied = always _ c.try_from_rising.result (All-cons IsEmpty (lists_node m) (nodes new) first c.in_ok-values.ensures.emptied);
      fits = accepted parts (ChildrenFit (ListOf b)) c.try_from_rising.result (λ p. from_parts false b.lists.data_type c.in_ok-data_type.data_type (builder_type child) (array_type c.in_ok-values.values) ls c.in_ok-data_type.offsets.items (builder_slots child) (array_slots c.in_ok-values.values) c.in_ok-data_type.validity c.in_ok-data_type.offsets.len te ie oe ye ve ne (ChildrenFit child) below p) c.try_from_rising.ensures.fits;
      err = refusal parts (ChildrenFit (ListOf b)) c.try_from_rising.result (λ q. to_parts false b.lists.data_type c.in_ok-data_type.data_type (builder_type child) (array_type c.in_ok-values.values) ls c.in_ok-data_type.offsets.items (builder_slots child) (array_slots c.in_ok-values.values) c.in_ok-data_type.validity c.in_ok-data_type.offsets.len te ie oe ye ve ne (ChildrenFit child) q) c.try_from_rising.ensures.err;
    }

pub large_list::DynMutableLargeListArray::as_box-returns-in_err-values : goal.large_list::DynMutableLargeListArray::as_box-returns-in_err-values
large_list::DynMutableLargeListArray::as_box-returns-in_err-values t c =
    let b = c.args.self.now in
    let child = b.values.value in
    let new = c.box_nodes.new.self in
    let same : c.deref_mut.result.now ≡ child = c.deref_mut.ensures.value in
    let e = c.in_err-values.field-0.0 in
    let h : IsRefusalOf (ChildrenFit child) e = subst (λ (x : MutableArray). IsRefusalOf (ChildrenFit x) e) same c.in_err-values.ensures.err in
    unboxed array.LargeList (LargeList b) _ e c.from_residual.result c.from_residual.ensures.1 (lists_same physical.LargeList b.lists.data_type b.lists.data_type (shape child) (shape new) refl (c.box_nodes.ensures.same_shape ∙ ap shape same))
    (refusal_of (ChildrenFit child) (ChildrenFit (LargeList b)) e (λ q. q.below) h)

pub large_list::DynMutableLargeListArray::as_box-returns-in_err-data_type : goal.large_list::DynMutableLargeListArray::as_box-returns-in_err-data_type
large_list::DynMutableLargeListArray::as_box-returns-in_err-data_type t c =
    let b = c.args.self.now in
    let r = c.from_residual-in_err-data_type in
    unboxed array.LargeList (LargeList b) _ c.in_err-data_type.field-0.0 r.result r.ensures.1 (lists_same physical.LargeList b.lists.data_type c.take.new.self.data_type (shape b.values.value) (shape c.box_nodes.new.self) c.take.ensures.data_type (c.box_nodes.ensures.same_shape ∙ ap shape c.deref_mut.ensures.value)) (inl c.in_err-data_type.ensures.memory)

pub large_list::DynMutableLargeListArray::as_box-try_from_rising-requires : goal.large_list::DynMutableLargeListArray::as_box-try_from_rising-requires
large_list::DynMutableLargeListArray::as_box-try_from_rising-requires t c = rw (map-id c.in_ok-data_type.offsets.items) at c.in_ok-data_type.ensures.rising

pub large_list::DynMutableLargeListArray::as_box-returns : goal.large_list::DynMutableLargeListArray::as_box-returns
large_list::DynMutableLargeListArray::as_box-returns t c =
    let b = c.args.self.now in
    let child = b.values.value in
    let same : c.deref_mut.result.now ≡ child = c.deref_mut.ensures.value in
    let te = c.in_ok-data_type.ensures.same_type in
    let ie : array_type c.in_ok-values.values ≡ builder_type child = c.in_ok-values.ensures.same_type ∙ ap builder_type same in
    let de : dictionaries_of c.in_ok-values.values ≡ builder_dictionaries child = c.in_ok-values.ensures.same_dictionaries ∙ ap builder_dictionaries same in
    let ye : array_slots c.in_ok-values.values ≡ builder_slots child = c.in_ok-values.ensures.same_slots ∙ ap builder_slots same in
    let ve = c.in_ok-data_type.ensures.validity in
    let ls = b.lists.lens in
    let oe = sym (map-id c.in_ok-data_type.offsets.items) ∙ c.in_ok-data_type.ensures.offsets in
    let ne : c.in_ok-data_type.offsets.len ≡ length c.in_ok-data_type.offsets.items = omega (arith, c.in_ok-data_type.offsets.ok.0) in
    let parts = ListFits true c.in_ok-data_type.data_type (array_type c.in_ok-values.values) c.in_ok-data_type.offsets.items (array_slots c.in_ok-values.values) (Some c.in_ok-data_type.validity) in
    let below : ChildrenFit child = subst ChildrenFit same c.in_ok-values.ensures.fits in
    let m = c.take.new.self in
    let new = c.box_nodes.new.self in
    let first : IsEmpty (lists_node m) = record { slots = ap length c.in_ok-data_type.ensures.lens; bytes = refl } in
    record {
      same_shape = lists_same physical.LargeList b.lists.data_type m.data_type (shape child) (shape new) c.take.ensures.data_type (c.box_nodes.ensures.same_shape ∙ ap shape same);
      same_type = shown (λ (a : ListColumn). a.data_type) c.try_from_rising.result _ _ c.try_from_rising.ensures.data_type te;
      same_slots = shown_slots (λ (a : ListColumn). a.slots) parts c.try_from_rising.result _ _ c.try_from_rising.ensures.slots c.try_from_rising.ensures.fits (λ p. same_lists true b.lists.data_type c.in_ok-data_type.data_type (builder_type child) (array_type c.in_ok-values.values) ls c.in_ok-data_type.offsets.items (builder_slots child) (array_slots c.in_ok-values.values) c.in_ok-data_type.validity c.in_ok-data_type.offsets.len te ie oe ye ve ne p);
      same_dictionaries = shown (λ (a : ListColumn). a.dictionaries) c.try_from_rising.result _ _ c.try_from_rising.ensures.dictionaries de;
      normalized = λ tight. lists_normalized (λ (a : ListColumn). a.offsets) (λ (a : ListColumn). a.items) c.try_from_rising.result _ ls _ (builder_slots child) oe ye tight.0 c.try_from_rising.ensures.offsets c.try_from_rising.ensures.items;
      emptied = always _ c.try_from_rising.result (All-cons IsEmpty (lists_node m) (nodes new) first c.in_ok-values.ensures.emptied);
      fits = accepted parts (ChildrenFit (LargeList b)) c.try_from_rising.result (λ p. from_parts true b.lists.data_type c.in_ok-data_type.data_type (builder_type child) (array_type c.in_ok-values.values) ls c.in_ok-data_type.offsets.items (builder_slots child) (array_slots c.in_ok-values.values) c.in_ok-data_type.validity c.in_ok-data_type.offsets.len te ie oe ye ve ne (ChildrenFit child) below p) c.try_from_rising.ensures.fits;
      err = refusal parts (ChildrenFit (LargeList b)) c.try_from_rising.result (λ q. to_parts true b.lists.data_type c.in_ok-data_type.data_type (builder_type child) (array_type c.in_ok-values.values) ls c.in_ok-data_type.offsets.items (builder_slots child) (array_slots c.in_ok-values.values) c.in_ok-data_type.validity c.in_ok-data_type.offsets.len te ie oe ye ve ne (ChildrenFit child) q) c.try_from_rising.ensures.err;
    }

pub fixed_size_list::MutableFixedSizeListArray::as_box-returns-in_err-values : goal.fixed_size_list::MutableFixedSizeListArray::as_box-returns-in_err-values
fixed_size_list::MutableFixedSizeListArray::as_box-returns-in_err-values t c =
    let b = c.args.self.now in
    let child = b.values.value in
    let new = c.box_nodes.new.self in
    let same : c.deref_mut.result.now ≡ child = c.deref_mut.ensures.value in
    let e = c.in_err-values.field-0.0 in
    let h : IsRefusalOf (ChildrenFit child) e = subst (λ (x : MutableArray). IsRefusalOf (ChildrenFit x) e) same c.in_err-values.ensures.err in
    unboxed array.FixedSizeList (FixedSizeList b) _ e c.from_residual.result c.from_residual.ensures.1 (fixed_lists_same b.marks.data_type b.marks.data_type (shape child) (shape new) refl (c.box_nodes.ensures.same_shape ∙ ap shape same))
    (refusal_of (ChildrenFit child) (ChildrenFit (FixedSizeList b)) e (λ q. q.below) h)

pub fixed_size_list::MutableFixedSizeListArray::as_box-returns-in_err-data_type : goal.fixed_size_list::MutableFixedSizeListArray::as_box-returns-in_err-data_type
fixed_size_list::MutableFixedSizeListArray::as_box-returns-in_err-data_type t c =
    let b = c.args.self.now in
    let r = c.from_residual-in_err-data_type in
    unboxed array.FixedSizeList (FixedSizeList b) _ c.in_err-data_type.field-0.0 r.result r.ensures.1 (fixed_lists_same b.marks.data_type c.take.new.self.data_type (shape b.values.value) (shape c.box_nodes.new.self) c.take.ensures.data_type (c.box_nodes.ensures.same_shape ∙ ap shape c.deref_mut.ensures.value)) (inl c.in_err-data_type.ensures.memory)

pub fixed_size_list::MutableFixedSizeListArray::as_box-returns : goal.fixed_size_list::MutableFixedSizeListArray::as_box-returns
fixed_size_list::MutableFixedSizeListArray::as_box-returns t c =
    let b = c.args.self.now in
    let child = b.values.value in
    let same : c.deref_mut.result.now ≡ child = c.deref_mut.ensures.value in
    let te = c.in_ok-data_type.ensures.same_type in
    let ie : array_type c.in_ok-values.values ≡ builder_type child = c.in_ok-values.ensures.same_type ∙ ap builder_type same in
    let de : dictionaries_of c.in_ok-values.values ≡ builder_dictionaries child = c.in_ok-values.ensures.same_dictionaries ∙ ap builder_dictionaries same in
    let ye : array_slots c.in_ok-values.values ≡ builder_slots child = c.in_ok-values.ensures.same_slots ∙ ap builder_slots same in
    let ve = c.in_ok-data_type.ensures.validity in
    let parts = FixedListFits c.in_ok-data_type.data_type (array_type c.in_ok-values.values) (length (array_slots c.in_ok-values.values)) (Some c.in_ok-data_type.validity) in
    let below : ChildrenFit child = subst ChildrenFit same c.in_ok-values.ensures.fits in
    let m = c.take.new.self in
    let new = c.box_nodes.new.self in
    let first : IsEmpty (marks_node m) = record { slots = ap length c.take.ensures.booleans; bytes = refl } in
    record {
      same_shape = fixed_lists_same b.marks.data_type m.data_type (shape child) (shape new) c.take.ensures.data_type (c.box_nodes.ensures.same_shape ∙ ap shape same);
      same_type = shown (λ (a : NestedColumn). a.data_type) c.try_new.result _ _ c.try_new.ensures.data_type te;
      same_slots = shown_slots (λ (a : NestedColumn). a.slots) parts c.try_new.result _ _ c.try_new.ensures.slots c.try_new.ensures.fits (λ p. same_fixed_lists b.marks.data_type c.in_ok-data_type.data_type (builder_type child) (array_type c.in_ok-values.values) b.marks.booleans (builder_slots child) (array_slots c.in_ok-values.values) c.in_ok-data_type.validity te ie ye ve p);
      same_dictionaries = shown (λ (a : NestedColumn). a.dictionaries) c.try_new.result _ _ c.try_new.ensures.dictionaries de;
      normalized = λ _. no_offsets c.try_new.result;
      emptied = always _ c.try_new.result (All-cons IsEmpty (marks_node m) (nodes new) first c.in_ok-values.ensures.emptied);
      fits = accepted parts (ChildrenFit (FixedSizeList b)) c.try_new.result (λ p. from_fixed_parts b.marks.data_type c.in_ok-data_type.data_type (builder_type child) (array_type c.in_ok-values.values) b.marks.booleans (builder_slots child) (array_slots c.in_ok-values.values) c.in_ok-data_type.validity te ie ye ve (ChildrenFit child) below p) c.try_new.ensures.fits;
      err = refusal parts (ChildrenFit (FixedSizeList b)) c.try_new.result (λ q. to_fixed_parts b.marks.data_type c.in_ok-data_type.data_type (builder_type child) (array_type c.in_ok-values.values) b.marks.booleans (builder_slots child) (array_slots c.in_ok-values.values) c.in_ok-data_type.validity te ie ye ve (ChildrenFit child) q) c.try_new.ensures.err;
    }

pub structs::DynMutableStructArray::as_box-returns-in_err-values : goal.structs::DynMutableStructArray::as_box-returns-in_err-values
structs::DynMutableStructArray::as_box-returns-in_err-values t c =
    let b = c.args.self.now in
    let d : DynMutableStructArray = record { marks = b.marks; values = with_items b.values c.box_all.new.children } in
    let e = c.in_err-values.field-0.0 in
    let h = subst (λ (xs : List MutableArray). IsRefusalOf (AllFit xs) e) c.deref_mut.ensures.value c.in_err-values.ensures.err in
    unboxed array.Struct (Struct b) (Struct d) e c.from_residual.result c.from_residual.ensures.1 (shape_same b d refl (shapes_back b.values c.deref_mut.result.now c.box_all.new.children c.box_all.ensures.shapes c.deref_mut.ensures.value))
    (refusal_of (AllFit b.values.items) (ChildrenFit (Struct b)) e (λ q. let k = subst (λ (P : Type 0). P) (fit-record b) q in k.below) h)

pub structs::DynMutableStructArray::as_box-returns-in_err-data_type : goal.structs::DynMutableStructArray::as_box-returns-in_err-data_type
structs::DynMutableStructArray::as_box-returns-in_err-data_type t c =
    let b = c.args.self.now in
    let d : DynMutableStructArray = record { marks = c.take.new.self; values = with_items b.values c.box_all.new.children } in
    let r = c.from_residual-in_err-data_type in
    unboxed array.Struct (Struct b) (Struct d) c.in_err-data_type.field-0.0 r.result r.ensures.1 (shape_same b d c.take.ensures.data_type (shapes_back b.values c.deref_mut.result.now c.box_all.new.children c.box_all.ensures.shapes c.deref_mut.ensures.value)) (inl c.in_err-data_type.ensures.memory)

pub structs::DynMutableStructArray::as_box-returns : goal.structs::DynMutableStructArray::as_box-returns
structs::DynMutableStructArray::as_box-returns t c =
    let b = c.args.self.now in
    let items = b.values.items in
    let same : c.deref_mut.result.now ≡ items = c.deref_mut.ensures.value in
    let te = c.in_ok-data_type.ensures.same_type in
    let ve = c.in_ok-data_type.ensures.validity in
    let ke : map array_type c.in_ok-values.values.items ≡ map builder_type items = c.in_ok-values.ensures.types ∙ ap (map builder_type) same in
    let ye : map array_slots c.in_ok-values.values.items ≡ map builder_slots items = c.in_ok-values.ensures.slots ∙ ap (map builder_slots) same in
    let de : map dictionaries_of c.in_ok-values.values.items ≡ map builder_dictionaries items = c.in_ok-values.ensures.dictionaries ∙ ap (map builder_dictionaries) same in
    let parts = StructFits c.in_ok-data_type.data_type c.in_ok-values.values.items (Some c.in_ok-data_type.validity) in
    let alike : parts → _ ≡ builder_slots (Struct b) = λ p. slots_of-frozen _ _ c.in_ok-data_type.validity b.marks.booleans _ (length b.marks.booleans) (ap record_at ye) ve (sym p.validity_fits ∙ ap length ve) ∙ sym (slots-record b) in
    let below : AllFit items = subst AllFit same c.in_ok-values.ensures.fits in
    let d : DynMutableStructArray = record { marks = c.take.new.self; values = with_items b.values c.box_all.new.children } in
    let empty : All IsEmpty (all_nodes d.values.items) = rw (items_back b.values c.deref_mut.result.now c.box_all.new.children c.box_all.ensures.shapes c.deref_mut.ensures.value) c.in_ok-values.ensures.emptied in
    let first : IsEmpty (marks_node c.take.new.self) = record { slots = ap length c.take.ensures.booleans; bytes = refl } in
    record {
      same_shape = shape_same b d c.take.ensures.data_type (shapes_back b.values c.deref_mut.result.now c.box_all.new.children c.box_all.ensures.shapes c.deref_mut.ensures.value);
      same_type = shown (λ (a : NestedColumn). a.data_type) c.try_new.result _ _ c.try_new.ensures.data_type te;
      same_slots = shown_slots (λ (a : NestedColumn). a.slots) parts c.try_new.result _ _ c.try_new.ensures.slots c.try_new.ensures.fits alike;
      same_dictionaries = shown (λ (a : NestedColumn). a.dictionaries) c.try_new.result _ _ c.try_new.ensures.dictionaries (values_are c.in_ok-values.values.items items de ∙ sym (dictionaries-record b));
      normalized = λ _. no_offsets c.try_new.result;
      emptied = always _ c.try_new.result (nodes_of (All IsEmpty) d (All-cons IsEmpty (marks_node c.take.new.self) _ first empty));
      fits = accepted parts (ChildrenFit (Struct b)) c.try_new.result (λ p. subst (λ (P : Type 0). P) (sym (fit-record b)) (records_fit b.marks.data_type c.in_ok-data_type.data_type (map builder_type items) (map builder_slots items) (length b.marks.booleans) c.in_ok-data_type.validity te (ap length ve) c.in_ok-values.values.items ke ye (AllFit items) below p)) c.try_new.ensures.fits;
      err = refusal parts (ChildrenFit (Struct b)) c.try_new.result (λ q. record_parts b.marks.data_type c.in_ok-data_type.data_type (map builder_type items) (map builder_slots items) (length b.marks.booleans) c.in_ok-data_type.validity te (ap length ve) c.in_ok-values.values.items ke ye (AllFit items) (subst (λ (P : Type 0). P) (fit-record b) q)) c.try_new.ensures.err;
    }

pub structs::box_all-loop-i-init :
    goal.structs::box_all-loop-i-init
structs::box_all-loop-i-init t c =
    record { kept = search rules; each = Upto-start Boxed c.args.children.now; told_types = search rules; told_slots = search rules; told_dictionaries = search rules }

pub structs::box_all-loop-i-preserved :
    goal.structs::box_all-loop-i-preserved
structs::box_all-loop-i-preserved t c =
    let inv = c.loop-i.invariant in
    let e = c.in_ok-array.ensures in
    let same = Upto-next Boxed c.loop-i.i c.args.children.now c.loop-i.children c.index-children-i.result inv.each in
    let here : c.index-children-i.result ≡ get_or c.args.children.now c.loop-i.i c.index-children-i.result = c.index-children-i.is ∙ same in
    record {
      kept = (length-set _ _ _ ∙ inv.kept.0, λ k d h. let ne : k ≢ c.loop-i.i = omega arith in rw get_or-set_other (inv.kept.1 k d (omega arith)));
      each = Upto-step Boxed c.loop-i.i _ _ c.loop-i.children c.index-children-i.result c.box_nodes.new.self (omega arith) (omega arith) (record { asked = record { same_shape = e.same_shape }; emptied = e.emptied; fits = e.fits }) inv.each;
      told_types = told_step builder_type array_type c.args.children.now c.loop-i.i _ c.index-children-i.result c.loop-i.arrays.items _ c.in_ok-array.array (omega arith) (omega arith) here (e.same_type ∙ ap builder_type (sym c.index-children-i.is)) c.in_ok-push.ensures.items inv.told_types;
      told_slots = told_step builder_slots array_slots c.args.children.now c.loop-i.i _ c.index-children-i.result c.loop-i.arrays.items _ c.in_ok-array.array (omega arith) (omega arith) here (e.same_slots ∙ ap builder_slots (sym c.index-children-i.is)) c.in_ok-push.ensures.items inv.told_slots;
      told_dictionaries = told_step builder_dictionaries dictionaries_of c.args.children.now c.loop-i.i _ c.index-children-i.result c.loop-i.arrays.items _ c.in_ok-array.array (omega arith) (omega arith) here (e.same_dictionaries ∙ ap builder_dictionaries (sym c.index-children-i.is)) c.in_ok-push.ensures.items inv.told_dictionaries;
    }

pub structs::box_all-returns-in_err-arrays : goal.structs::box_all-returns-in_err-arrays
structs::box_all-returns-in_err-arrays t c = all_unboxed _ _ _ OutOfMemory c.from_residual.result c.from_residual.ensures.1 refl (inl refl)

pub structs::box_all-returns-in_err-array : goal.structs::box_all-returns-in_err-array
structs::box_all-returns-in_err-array t c =
    let same = Upto-next Boxed c.loop-i.i c.args.children.now c.loop-i.children c.index-children-i.result c.loop-i.invariant.each in
    let here = get_or c.loop-i.children c.loop-i.i c.index-children-i.result in
    let f : AllFit c.args.children.now → ChildrenFit here = λ q. subst ChildrenFit (sym same) (all_fit_at c.args.children.now c.loop-i.i c.index-children-i.result (omega arith) q) in
    let e = c.in_err-array.field-0.0 in
    all_unboxed _ _ _ e c.from_residual-in_err-array.result c.from_residual-in_err-array.ensures.1
    (Upto-map Asked shape (λ x y h. h.same_shape) _ _ _ (Upto-set Asked c.loop-i.i _ c.loop-i.children c.index-children-i.result c.box_nodes.new.self (omega arith) (record { same_shape = c.box_nodes.ensures.same_shape }) (Upto-weaken Boxed Asked (λ x y h. h.asked) _ _ _ c.loop-i.invariant.each)))
    (refusal_of (ChildrenFit here) (AllFit c.args.children.now) e f c.in_err-array.ensures.err)

pub structs::box_all-returns-in_err-push : goal.structs::box_all-returns-in_err-push
structs::box_all-returns-in_err-push t c = all_unboxed _ _ _ OutOfMemory c.from_residual-in_err-push.result c.from_residual-in_err-push.ensures.1
    (Upto-map Asked shape (λ x y h. h.same_shape) _ _ _ (Upto-set Asked c.loop-i.i _ c.loop-i.children c.index-children-i.result c.box_nodes.new.self (omega arith) (record { same_shape = c.box_nodes.ensures.same_shape }) (Upto-weaken Boxed Asked (λ x y h. h.asked) _ _ _ c.loop-i.invariant.each))) (inl refl)

pub structs::box_all-returns : goal.structs::box_all-returns
structs::box_all-returns t c =
    let inv = c.loop-i.invariant in
    record {
      shapes = Upto-map Boxed shape (λ x y h. h.asked.same_shape) _ _ _ inv.each;
      types = told_all builder_type array_type c.args.children.now c.loop-i.i c.loop-i.arrays.items (omega arith) inv.told_types;
      slots = told_all builder_slots array_slots c.args.children.now c.loop-i.i c.loop-i.arrays.items (omega arith) inv.told_slots;
      dictionaries = told_all builder_dictionaries dictionaries_of c.args.children.now c.loop-i.i c.loop-i.arrays.items (omega arith) inv.told_dictionaries;
      emptied = Upto-all Boxed IsEmpty (λ x y h. h.emptied) _ _ _ (omega arith) inv.each;
      fits = Upto-fit Boxed (λ x y h. h.fits) _ _ _ (omega arith) inv.each;
      err = tt;
    }
