-- The nulls that come after the slots at each node of a builder.
use Rattle.std.proofs.Common.{◌≡◌, ap, ◌∙◌, sym, subst, ℕ, ◌+◌, ◌*◌, List, [], ◌∷◌, ◌++◌, arith, Result, OnOk}
use Rattle.std.proofs.lemmas.List.{append-nil}
use Rattle.arrow_core.specs.declared.slot.Slot.{Slot}
use Rattle.arrow_array.specs.FixedLists.{list_size}
use Rattle.arrow_builders.specs.MutableArrays.{builder_slots, slots_at, slots_at_below}
use Rattle.arrow_flat.specs.Nested.{null_slots}
use Rattle.arrow_builders.specs.Shapes.{Added, AllGetNulls, nulls_in, nulls_at, shape, shapes_below}
use Rattle.arrow_builders.specs.declared.array.MutableArray.{MutableArray, List', LargeList', FixedSizeList', Struct', Row_of-MutableArray, end_of-MutableArray, more_of-MutableArray}
use Rattle.arrow_builders.specs.declared.array.MutableArray.{Null, Boolean, Int8, Int16, Int32, Int64, UInt8, UInt16, UInt32, UInt64, Int128, MonthDayNano, Utf8, LargeUtf8, Binary, LargeBinary, FixedSizeBinary, Dictionary}
use Rattle.arrow_builders.proofs.Growth.{AllAdded-append, AllAdded-then, nulls-sum}
use Rattle.arrow_builders.proofs.NestedSlots.{nulls-append}

-- ---- no null

stays : (xs : List Slot) → xs ≡ xs ++ null_slots 0
stays xs = sym (append-nil xs)

pub AllGetNulls-append : (ps bs : List Added) (xs ys us vs : List (List Slot)) → AllGetNulls ps xs ys → AllGetNulls bs us vs → AllGetNulls (ps ++ bs) (xs ++ us) (ys ++ vs)
AllGetNulls-append ps bs xs ys us vs h k = AllAdded-append (λ a x y. y ≡ x ++ null_slots a.slots) ps bs xs ys us vs h k

mutual
  pub none_come : (b : MutableArray) → AllGetNulls (nulls_in 0 (shape b)) (slots_at b) (slots_at b)
  none_come (Null b) = (stays b.slots, tt)
  none_come (Boolean b) = (stays b.slots, tt)
  none_come (Int8 b) = (stays b.slots, tt)
  none_come (Int16 b) = (stays b.slots, tt)
  none_come (Int32 b) = (stays b.slots, tt)
  none_come (Int64 b) = (stays b.slots, tt)
  none_come (UInt8 b) = (stays b.slots, tt)
  none_come (UInt16 b) = (stays b.slots, tt)
  none_come (UInt32 b) = (stays b.slots, tt)
  none_come (UInt64 b) = (stays b.slots, tt)
  none_come (Int128 b) = (stays b.slots, tt)
  none_come (MonthDayNano b) = (stays b.slots, tt)
  none_come (Utf8 b) = (stays b.slots, tt)
  none_come (LargeUtf8 b) = (stays b.slots, tt)
  none_come (Binary b) = (stays b.slots, tt)
  none_come (LargeBinary b) = (stays b.slots, tt)
  none_come (FixedSizeBinary b) = (stays b.slots, tt)
  none_come (Dictionary b) = (stays b.slots, tt)
  none_come (List' marks p child) = (stays (builder_slots (List' marks p child)), none_come child)
  none_come (LargeList' marks p child) = (stays (builder_slots (LargeList' marks p child)), none_come child)
  none_come (FixedSizeList' marks p child) =
      let e : 0 ≡ 0 * list_size marks.data_type = omega arith in
      (stays (builder_slots (FixedSizeList' marks p child)), subst (λ n. AllGetNulls (nulls_in n (shape child)) (slots_at child) (slots_at child)) e (none_come child))
  none_come (Struct' marks size row) = (stays (builder_slots (Struct' marks size row)), none_come_below row)

  none_come_below : {m : _} (row : Row_of-MutableArray m) → AllGetNulls (nulls_in 0 (shapes_below row)) (slots_at_below row) (slots_at_below row)
  none_come_below end_of-MutableArray = tt
  none_come_below (more_of-MutableArray b rest) =
      AllGetNulls-append (nulls_in 0 (shape b)) (nulls_in 0 (shapes_below rest)) (slots_at b) (slots_at b) (slots_at_below rest) (slots_at_below rest) (none_come b) (none_come_below rest)

-- ---- one null more

-- c is b with i nulls more, and d is c with one more
pub one_more_null : (b c d : MutableArray) (i : ℕ) → shape c ≡ shape b → AllGetNulls (nulls_in i (shape b)) (slots_at b) (slots_at c) → AllGetNulls (nulls_in 1 (shape c)) (slots_at c) (slots_at d) → AllGetNulls (nulls_in (i + 1) (shape b)) (slots_at b) (slots_at d)
one_more_null b c d i s h k =
    let t : AllGetNulls (nulls_in 1 (shape b)) (slots_at c) (slots_at d) = subst (λ z. AllGetNulls (nulls_in 1 z) (slots_at c) (slots_at d)) s k in
    let both = AllAdded-then (λ a x y. y ≡ x ++ null_slots a.slots) (λ p q x y z f g. g ∙ ap (λ (xs : List Slot). xs ++ null_slots q.slots) f ∙ nulls-append x p.slots q.slots) (nulls_in i (shape b)) (nulls_in 1 (shape b)) (slots_at b) (slots_at c) (slots_at d) h t in
    subst (λ (ps : List Added). AllGetNulls ps (slots_at b) (slots_at d)) (sym (nulls-sum i 1 (shape b))) both

-- ---- answers

-- what is told of two builders is told of two that equal them
pub told_of : {A E : Type 0} (r : Result A E) (b d x y : MutableArray) → b ≡ x → d ≡ y → OnOk r (AllGetNulls (nulls_at 1 x) (slots_at x) (slots_at y)) → OnOk r (AllGetNulls (nulls_at 1 b) (slots_at b) (slots_at d))
told_of r b d x y e f h = rw (e, f) h
