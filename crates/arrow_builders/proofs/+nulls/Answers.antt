use Rattle.std.proofs.Common.{◌≡◌, ◌≢◌, ◌∙◌, ◌∷◌, ◌++◌, ◌*◌, [], map, arith, ap, rules, refl, subst, false, true, List, get_or-set_other, Ok, Err}
use Rattle.std.specs.Vec.{with_items}
use Rattle.std.proofs.lemmas.List.{length-set}
use Rattle.arrow_core.specs.declared.slot.Slot.TheVariants as slot
use Rattle.arrow_array.specs.FixedLists.{list_size}
use Rattle.arrow_builders.specs.Calls.{PushesNulls, PushesNull, AllPushNull}
use Rattle.arrow_builders.specs.Children.{all_nodes, all_nulls, all_slots, fields_of}
use Rattle.arrow_builders.specs.MutableArrays.{builder_slots, nodes, slots_at}
use Rattle.arrow_flat.specs.Nested.{marks_node}
use Rattle.arrow_builders.specs.Shapes.{AllTake, AllGetNulls, AllGetBytes, nulls_in, shape}
use Rattle.arrow_builders.specs.declared.list.DynMutableListArray.{DynMutableListArray}
use Rattle.arrow_builders.specs.declared.large_list.DynMutableLargeListArray.{DynMutableLargeListArray}
use Rattle.arrow_builders.specs.declared.fixed_size_list.MutableFixedSizeListArray.{MutableFixedSizeListArray}
use Rattle.arrow_builders.specs.declared.structs.DynMutableStructArray.{DynMutableStructArray}
use Rattle.arrow_builders.specs.declared.array.MutableArray.{MutableArray, List as ListOf, LargeList, FixedSizeList, Struct}
use Rattle.arrow_builders.proofs.Growth.{AllTake-same, Takes-same}
use Rattle.arrow_builders.proofs.ManyNulls.{one_more, up_to, next_fits, child_fits}
use Rattle.arrow_builders.proofs.NullBytes.{no_bytes, one_more_bytes}
use Rattle.arrow_builders.proofs.NullsTight.{slots_grow}
use Rattle.arrow_builders.proofs.NullsBelow.{none_come, one_more_null}
use Rattle.arrow_builders.proofs.NestedCalls.{told, in_ok, nested_null, nulled, unnulled, marks_took, fixed_nulled, record_nulled, nulls_refused, all_refuse_null, fixed_lists_same}
use Rattle.arrow_builders.proofs.Rows.{shape_same, shape-record, nodes-record, slots_at-record, back_both}
use Rattle.arrow_builders.proofs.Sizes.{nulls-fit}
use Rattle.arrow_builders.proofs.Upto.{Upto-start, Upto-weaken, Upto-next, Upto-set, Upto-step, Upto-map, Upto-map_all, Upto-takes, Upto-nulls_all, Upto-bytes_all}
use Rattle.arrow_builders.proofs.Weights.{child_lighter, weight}
use Rattle.arrow_builders.proofs.Flats.{is_flat}
use Rattle.arrow_builders.proofs.+nulls.Invariants.{Asked, Nulled}
use Rattle.arrow_builders.proofs.+nulls.Goals as goal

pub array::MutableArray::append_null-append_flat_null-requires : goal.array::MutableArray::append_null-append_flat_null-requires
array::MutableArray::append_null-append_flat_null-requires t c = is_flat c.args.self.now c.in_default.not-List c.in_default.not-LargeList c.in_default.not-FixedSizeList c.in_default.not-Struct

pub array::MutableArray::append_null-returns-in_default : goal.array::MutableArray::append_null-returns-in_default
array::MutableArray::append_null-returns-in_default t c = c.append_flat_null.ensures

pub array::MutableArray::append_null-returns-in-List : goal.array::MutableArray::append_null-returns-in-List
array::MutableArray::append_null-returns-in-List t c =
    let r = c.push_null.result in
    let n = ListOf c.push_null.new.self in
    let x = ListOf c.in-List.builder in
    told (λ x y. PushesNull x y r) c.args.self.now _ x n c.in-List.is (search rules) (nested_null x n r (λ f. f) (subst (λ (b : DynMutableListArray). PushesNulls 1 (ListOf b) n r) c.in-List.builder-is c.push_null.ensures))

pub array::MutableArray::append_null-returns-in-LargeList : goal.array::MutableArray::append_null-returns-in-LargeList
array::MutableArray::append_null-returns-in-LargeList t c =
    let r = c.push_null-in-LargeList.result in
    let n = LargeList c.push_null-in-LargeList.new.self in
    let x = LargeList c.in-LargeList.builder in
    told (λ x y. PushesNull x y r) c.args.self.now _ x n c.in-LargeList.is (search rules) (nested_null x n r (λ f. f) (subst (λ (b : DynMutableLargeListArray). PushesNulls 1 (LargeList b) n r) c.in-LargeList.builder-is c.push_null-in-LargeList.ensures))

pub array::MutableArray::append_null-returns-in-FixedSizeList : goal.array::MutableArray::append_null-returns-in-FixedSizeList
array::MutableArray::append_null-returns-in-FixedSizeList t c =
    let r = c.push_null-in-FixedSizeList.result in
    let n = FixedSizeList c.push_null-in-FixedSizeList.new.self in
    let x = FixedSizeList c.in-FixedSizeList.builder in
    told (λ x y. PushesNull x y r) c.args.self.now _ x n c.in-FixedSizeList.is (search rules) (nested_null x n r (λ f. f) (subst (λ (b : MutableFixedSizeListArray). PushesNulls 1 (FixedSizeList b) n r) c.in-FixedSizeList.builder-is c.push_null-in-FixedSizeList.ensures))

pub array::MutableArray::append_null-returns-in-Struct : goal.array::MutableArray::append_null-returns-in-Struct
array::MutableArray::append_null-returns-in-Struct t c =
    let r = c.push_null-in-Struct.result in
    let n = Struct c.push_null-in-Struct.new.self in
    let x = Struct c.in-Struct.builder in
    told (λ x y. PushesNull x y r) c.args.self.now _ x n c.in-Struct.is (search rules) (nested_null x n r (λ f. f) (subst (λ (b : DynMutableStructArray). PushesNulls 1 (Struct b) n r) c.in-Struct.builder-is c.push_null-in-Struct.ensures))

pub fixed_size_list::MutableFixedSizeListArray::push_null-returns-in_err-push_nulls : goal.fixed_size_list::MutableFixedSizeListArray::push_null-returns-in_err-push_nulls
fixed_size_list::MutableFixedSizeListArray::push_null-returns-in_err-push_nulls t c =
    let b = c.args.self.now in
    let child = b.values.value in
    let new = c.push_nulls.new.builder in
    let size : c.list_size_of-size.result ≡ list_size b.marks.data_type = c.list_size_of-size.ensures ∙ ap list_size c.data_type.ensures in
    let e : c.list_size_of-size.result ≡ 1 * list_size b.marks.data_type = omega (arith, size) in
    let z = c.in_err-push_nulls.field-0.0 in
    let h : PushesNulls (1 * list_size b.marks.data_type) child new (Err z) =
    subst (λ k. PushesNulls k child new (Err z)) e (subst (λ (x : MutableArray). PushesNulls c.list_size_of-size.result x new (Err z)) c.deref_mut.ensures.value c.in_err-push_nulls.ensures) in
    unnulled _ _ (marks_node b.marks) (marks_node b.marks) (nodes child) (nodes new) (slots_at child) (slots_at new) refl refl refl refl (fixed_lists_same b.marks.data_type b.marks.data_type (shape child) (shape new) refl h.same_shape)
    (nulls_in (1 * list_size b.marks.data_type) (shape child)) refl z c.from_residual.result c.from_residual.ensures.1 h.memory refl (Takes-same 1 0 (marks_node b.marks)) h.takes (λ f g. let q : false ≡ true = h.has_capacity g in cc)

pub fixed_size_list::MutableFixedSizeListArray::push_null-returns : goal.fixed_size_list::MutableFixedSizeListArray::push_null-returns
fixed_size_list::MutableFixedSizeListArray::push_null-returns t c =
    let b = c.args.self.now in
    let child = b.values.value in
    let new = c.push_nulls.new.builder in
    let size : c.list_size_of-size.result ≡ list_size b.marks.data_type = c.list_size_of-size.ensures ∙ ap list_size c.data_type.ensures in
    let e : c.list_size_of-size.result ≡ 1 * list_size b.marks.data_type = omega (arith, size) in
    let m = c.push.new.self in
    let p = c.push.ensures in
    let r = c.push.result in
    let h : PushesNulls (1 * list_size b.marks.data_type) child new (Ok tt) =
    subst (λ k. PushesNulls k child new (Ok tt)) e (subst (λ (x : MutableArray). PushesNulls c.list_size_of-size.result x new (Ok tt)) c.deref_mut.ensures.value c.in_ok-push_nulls.ensures) in
    let s = fixed_nulled r (list_size b.marks.data_type) (list_size m.data_type) (1 * list_size b.marks.data_type) (builder_slots child) (builder_slots new) b.marks.booleans m.booleans (ap list_size p.data_type) (slots_grow (1 * list_size b.marks.data_type) child new h.below) p.ok in
    nulled _ _ (marks_node b.marks) (marks_node m) (nodes child) (nodes new) (slots_at child) (slots_at new) refl refl refl refl (fixed_lists_same b.marks.data_type m.data_type (shape child) (shape new) p.data_type h.same_shape)
    (nulls_in (1 * list_size b.marks.data_type) (shape child)) refl r refl s (in_ok _ r h.below) (in_ok _ r h.bytes) p.memory (marks_took r b.marks m false p.ok p.err p.capacity) h.takes (λ f g. p.has_capacity f)

pub fixed_size_list::push_nulls-loop-init : goal.fixed_size_list::push_nulls-loop-init
fixed_size_list::push_nulls-loop-init t c = record {
  within = omega arith;
  same_shape = refl;
  below = none_come c.args.builder.now;
  bytes = no_bytes c.args.builder.now;
  takes = AllTake-same (nulls_in 0 (shape c.args.builder.now)) (nodes c.args.builder.now) (nulls-fit 0 c.args.builder.now);
}

pub fixed_size_list::push_nulls-loop-preserved : goal.fixed_size_list::push_nulls-loop-preserved
fixed_size_list::push_nulls-loop-preserved t c =
    let inv = c.loop.invariant in
    let e = c.in_ok-append_null.ensures.nulls in
    record {
      within = omega arith;
      same_shape = e.same_shape ∙ inv.same_shape;
      below = one_more_null c.args.builder.now c.loop.builder c.append_null.new.self c.loop.counter inv.same_shape inv.below e.below;
      bytes = one_more_bytes c.args.builder.now c.loop.builder c.append_null.new.self c.loop.counter inv.same_shape inv.bytes e.bytes;
      takes = one_more c.args.builder.now c.loop.builder c.loop.counter inv.same_shape inv.takes c.append_null.new.self e.takes;
    }

pub fixed_size_list::push_nulls-returns-in_err-append_null : goal.fixed_size_list::push_nulls-returns-in_err-append_null
fixed_size_list::push_nulls-returns-in_err-append_null t c =
    let inv = c.loop.invariant in
    let e = c.in_err-append_null.ensures.nulls in
    nulls_refused c.args.count c.args.builder.now c.append_null.new.self c.in_err-append_null.field-0.0 c.from_residual.result c.from_residual.ensures.1 e.memory (e.same_shape ∙ inv.same_shape)
    (up_to c.args.builder.now c.loop.builder c.loop.counter inv.same_shape inv.takes c.args.count c.append_null.new.self (omega arith) e.takes)
    (λ h. let k : false ≡ true = e.has_capacity (next_fits c.args.builder.now c.loop.builder c.loop.counter inv.same_shape inv.takes c.args.count (omega arith) h) in cc)

pub fixed_size_list::push_nulls-returns : goal.fixed_size_list::push_nulls-returns
fixed_size_list::push_nulls-returns t c =
    let inv = c.loop.invariant in
    let old = c.args.builder.now in
    let e : c.loop.counter ≡ c.args.count = omega arith in
    record {
      same_shape = inv.same_shape;
      below = subst (λ n. AllGetNulls (nulls_in n (shape old)) (slots_at old) (slots_at c.loop.builder)) e inv.below;
      bytes = subst (λ n. AllGetBytes (nulls_in n (shape old)) (nodes old) (nodes c.loop.builder)) e inv.bytes;
      memory = tt;
      takes = subst (λ n. AllTake (nulls_in n (shape old)) (nodes old) (nodes c.loop.builder)) e inv.takes;
      has_capacity = λ h. refl;
    }

pub structs::DynMutableStructArray::push_null-returns-in_err-push_null_all : goal.structs::DynMutableStructArray::push_null-returns-in_err-push_null_all
structs::DynMutableStructArray::push_null-returns-in_err-push_null_all t c =
    let b = c.args.self.now in
    let d : DynMutableStructArray = record { marks = b.marks; values = with_items b.values c.push_null_all.new.children } in
    let z = c.in_err-push_null_all.field-0.0 in
    let a = c.in_err-push_null_all.ensures in
    let h : AllPushNull b.values.items d.values.items (Err z) = back_both (λ xs ys. AllPushNull xs ys (Err z)) b.values c.deref_mut.result.now c.push_null_all.new.children a.shapes c.deref_mut.ensures.value a in
    unnulled (Struct b) (Struct d) (marks_node b.marks) (marks_node b.marks) (all_nodes b.values.items) (all_nodes d.values.items) (all_slots b.values.items) (all_slots d.values.items)
    (nodes-record b) (nodes-record d) (slots_at-record b) (slots_at-record d) (shape_same b d refl h.shapes)
    (all_nulls 1 b.values.items) (ap (nulls_in 1) (shape-record b)) z c.from_residual.result c.from_residual.ensures.1 h.memory refl (Takes-same 1 0 (marks_node b.marks)) h.takes (λ f g. let q : false ≡ true = h.has_capacity g in cc)

pub structs::DynMutableStructArray::push_null-returns : goal.structs::DynMutableStructArray::push_null-returns
structs::DynMutableStructArray::push_null-returns t c =
    let b = c.args.self.now in
    let d : DynMutableStructArray = record { marks = c.push.new.self; values = with_items b.values c.push_null_all.new.children } in
    let p = c.push.ensures in
    let r = c.push.result in
    let a = c.in_ok-push_null_all.ensures in
    let h : AllPushNull b.values.items d.values.items (Ok tt) = back_both (λ xs ys. AllPushNull xs ys (Ok tt)) b.values c.deref_mut.result.now c.push_null_all.new.children a.shapes c.deref_mut.ensures.value a in
    nulled (Struct b) (Struct d) (marks_node b.marks) (marks_node d.marks) (all_nodes b.values.items) (all_nodes d.values.items) (all_slots b.values.items) (all_slots d.values.items)
    (nodes-record b) (nodes-record d) (slots_at-record b) (slots_at-record d) (shape_same b d p.data_type h.shapes)
    (all_nulls 1 b.values.items) (ap (nulls_in 1) (shape-record b)) r refl (record_nulled r b d h.slots p.ok) (in_ok _ r h.below) (in_ok _ r h.bytes) p.memory (marks_took r b.marks d.marks false p.ok p.err p.capacity) h.takes (λ f g. p.has_capacity f)

pub structs::push_null_all-loop-i-init : goal.structs::push_null_all-loop-i-init
structs::push_null_all-loop-i-init t c = record { kept = search rules; each = Upto-start Nulled c.args.children.now }

pub structs::push_null_all-loop-i-preserved : goal.structs::push_null_all-loop-i-preserved
structs::push_null_all-loop-i-preserved t c =
    let inv = c.loop-i.invariant in
    let e = c.in_ok-append_null.ensures.nulls in
    record {
      kept = (length-set _ _ _ ∙ inv.kept.0, λ k d h. let ne : k ≢ c.loop-i.i = omega arith in rw get_or-set_other (inv.kept.1 k d (omega arith)));
      each = Upto-step Nulled c.loop-i.i _ _ c.loop-i.children c.index-children-i.result c.append_null.new.self (omega arith) (omega arith) (record { asked = record { same_shape = e.same_shape; takes = e.takes }; below = e.below; bytes = e.bytes }) inv.each;
    }

pub structs::push_null_all-returns-in_err-append_null : goal.structs::push_null_all-returns-in_err-append_null
structs::push_null_all-returns-in_err-append_null t c =
    let e = c.in_err-append_null.ensures.nulls in
    let same = Upto-next Nulled c.loop-i.i c.args.children.now c.loop-i.children c.index-children-i.result c.loop-i.invariant.each in
    let u = Upto-set Asked c.loop-i.i _ c.loop-i.children c.index-children-i.result c.append_null.new.self (omega arith) (record { same_shape = e.same_shape; takes = e.takes }) (Upto-weaken Nulled Asked (λ x y h. h.asked) _ _ _ c.loop-i.invariant.each) in
    all_refuse_null _ _ c.in_err-append_null.field-0.0 c.from_residual.result c.from_residual.ensures.1 e.memory (Upto-map Asked shape (λ x y h. h.same_shape) _ _ _ u) (Upto-takes Asked 1 (λ x y h. h.takes) _ _ _ u)
    (λ h. let f = child_fits 1 c.loop-i.i c.args.children.now c.index-children-i.result (omega arith) h in let k : false ≡ true = e.has_capacity (rw same f) in cc)

pub structs::push_null_all-returns : goal.structs::push_null_all-returns
structs::push_null_all-returns t c =
    let u = c.loop-i.invariant.each in
    record {
      shapes = Upto-map Nulled shape (λ x y h. h.asked.same_shape) _ _ _ u;
      slots = Upto-map_all Nulled builder_slots (λ b. builder_slots b ++ slot.Null ∷ []) (λ x y h. slots_grow 1 x y h.below) _ _ _ (omega arith) u;
      below = Upto-nulls_all Nulled 1 (λ x y h. h.below) _ _ _ (omega arith) u;
      bytes = Upto-bytes_all Nulled 1 (λ x y h. h.bytes) _ _ _ (omega arith) u;
      memory = tt;
      takes = Upto-takes Nulled 1 (λ x y h. h.asked.takes) _ _ _ u;
      has_capacity = λ h. refl;
    }

pub structs::DynMutableStructArray::push_null-push_null_all-requires :
    goal.structs::DynMutableStructArray::push_null-push_null_all-requires
structs::DynMutableStructArray::push_null-push_null_all-requires t c =
    let d = c.decreases in
    let w = ap weight (shape-record c.args.self.now) in
    let e = ap (λ (xs : List MutableArray). weight (fields_of (map shape xs))) c.deref_mut.ensures.value in
    (omega (arith, d, w, e), tt)

pub structs::push_null_all-append_null-requires : goal.structs::push_null_all-append_null-requires
structs::push_null_all-append_null-requires t c =
    let d = c.decreases in
    let same = Upto-next Nulled c.loop-i.i c.args.children.now c.loop-i.children c.index-children-i.result c.loop-i.invariant.each in
    let l = child_lighter c.args.children.now c.loop-i.i c.index-children-i.result (omega arith) in
    (omega (arith, d, l, ap (λ (x : MutableArray). weight (shape x)) same), tt)
