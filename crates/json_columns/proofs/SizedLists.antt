-- Columns of fixed-size lists, by the column of their items.
use Rattle.std.proofs.Common.{◌≡◌, ◌∙◌, inl, inr, ℕ, zero, suc, ◌+◌, ◌*◌, ◌/◌, ◌<◌, Bool, true, false, cond, eqb, List, [], ◌∷◌, ◌++◌, length, take, drop, map, slice_index_or, Some, refl, sym, ap, subst, arith, Result, Ok, Err, IfOk, get_or, append_assoc, zero-add}
use Rattle.std.specs.Borrow.{Bor}
use Rattle.std.specs.List.{range_with_len}
use Rattle.std.proofs.Math.Nat.{mul-mod_left, mul-div_cancel, suc-mul, zero-mul}
use Rattle.std.specs.Cmp.{unsigned_Decides}
use Rattle.std.proofs.lemmas.List.{append-nil, length-append, length-map, map-append}
use Rattle.arrow_array.specs.Arrays.{array_slots}
use Rattle.arrow_array.specs.FixedLists.{fixed_list_at, FixedListFits, IsFixedListOf, list_size}
use Rattle.arrow_array.specs.Slots.{slots_of}
use Rattle.arrow_array.specs.declared.array.Array.{Array}
use Rattle.arrow_array.specs.Bits.{Packed}
use Rattle.arrow_core.specs.declared.error.Error.{Error}
use Rattle.arrow_flat.specs.Builders.{slots_where}
use Rattle.arrow_flat.proofs.Bits.{made_alike}
use Rattle.arrow_core.specs.declared.slot.Slot.{Slot}
use Rattle.arrow_core.specs.declared.slot.Slot.TheVariants as slot
use Rattle.arrow_core.specs.declared.types.DataType.{DataType}
use Rattle.arrow_core.specs.declared.types.DataType.TheBlock.{shape-the_row-Field-0, hidden-the_row-Field-0}
use Rattle.arrow_core.specs.declared.types.DataType.TheVariants as types
use Rattle.arrow_core.specs.declared.types.Field.{Field}
use Rattle.json_tree.specs.Tree.{Json, null}
use Rattle.json_tree.specs.declared.value.Value.{out-Value}
use Rattle.json_tree.specs.declared.value.Value.TheOpen as layer
use Rattle.json_tree.specs.declared.value.Value.TheVariants as variant
use Rattle.json_flat.specs.Meaning.{Meaning, Layer, slot_of, text_timestamp}
use Rattle.json_flat.specs.Columns.{AreSlotsOf, IsNoSlot, lent, means}
use Rattle.json_columns.specs.Faults.{IsFault, IsSizedFault}
use Rattle.json_columns.specs.Gathered.{all_sized, are_sized, is_sized, nulls, sized_items}
use Rattle.json_flat.specs.Reading.{reading, sized_list_in, made_of, together}
use Rattle.json_columns.proofs.Anywhere.{AnyOf, from_any, to_any, of_append, in_map}
use Rattle.json_columns.proofs.Gathering.{lent_more, made_more}
use Rattle.json_columns.proofs.Layers.{array_layer, no_array}
use Rattle.json_columns.proofs.ListColumns.{column_length, cut, drop_drop}
use Rattle.json_columns.proofs.Nulls.{null_means}
use Rattle.json_columns.proofs.Together.{made, made_text, made_none}

text_is_slot : (s : Slot) → slot_of s ≡ text_timestamp → ⊥
text_is_slot s e = absurd cc

-- ---- lengths

nulls_length : (n : ℕ) → length (nulls n) ≡ n
nulls_length zero = refl
nulls_length (suc n) = ap suc (nulls_length n)

same_size : (n m : ℕ) → eqb n m ≡ true → n ≡ m
same_size n m e = (unsigned_Decides n m).0 e

by_size : (b : Bool) (size : ℕ) (items : List Json) → eqb (length items) size ≡ b → length (cond b items (nulls size)) ≡ size
by_size true size items e = same_size (length items) size e
by_size false size items e = nulls_length size

items_length : (size : ℕ) (l : Layer) → length (sized_items size l) ≡ size
items_length size (layer.Array items) = by_size (eqb (length items) size) size items refl
items_length size layer.Null = nulls_length size
items_length size (layer.Bool b) = nulls_length size
items_length size (layer.Number n) = nulls_length size
items_length size (layer.String text) = nulls_length size
items_length size (layer.Object o) = nulls_length size

mul_suc : (n size : ℕ) → suc n * size ≡ size + n * size
mul_suc n size = omega (arith, suc-mul n size)

pub all_length : (size : ℕ) (vs : List Json) → length (all_sized size vs) ≡ length vs * size
all_length size [] = sym (zero-mul size)
all_length size (v ∷ vs) =
    length-append (sized_items size (out-Value v)) (all_sized size vs) ∙ (λ i. items_length size (out-Value v) i + all_length size vs i) ∙ sym (mul_suc (length vs) size)

-- ---- gathered

all_sized-append : (size : ℕ) (xs ys : List Json) → all_sized size (xs ++ ys) ≡ all_sized size xs ++ all_sized size ys
all_sized-append size [] ys = refl
all_sized-append size (x ∷ xs) ys = ap (λ l. sized_items size (out-Value x) ++ l) (all_sized-append size xs ys) ∙ sym (append_assoc (sized_items size (out-Value x)) (all_sized size xs) (all_sized size ys))

pub sized_more : (size : ℕ) (vs : List (Bor Json)) (i : ℕ) (v : Bor Json) (old new : List (Bor Json)) → i < length vs → v ≡ get_or vs i v → lent old ≡ all_sized size (lent (take i vs)) → lent new ≡ lent old ++ sized_items size (out-Value v.now)
    → lent new ≡ all_sized size (lent (take (i + 1) vs))
sized_more size vs i v old new lt is h e =
    e ∙ ap (λ (l : List Json). l ++ sized_items size (out-Value v.now)) h
    ∙ sym (ap (all_sized size) (lent_more vs i v lt is) ∙ all_sized-append size (lent (take i vs)) (v.now ∷ []) ∙ ap (λ l. all_sized size (lent (take i vs)) ++ l) (append-nil (sized_items size (out-Value v.now))))

pub marks_more : (size : ℕ) (vs : List (Bor Json)) (i : ℕ) (v : Bor Json) (old new : List Bool) → i < length vs → v ≡ get_or vs i v → old ≡ are_sized size (lent (take i vs)) → new ≡ old ++ is_sized size (out-Value v.now) ∷ []
    → new ≡ are_sized size (lent (take (i + 1) vs))
marks_more size vs i v old new lt is h e = e ∙ ap (λ (l : List Bool). l ++ is_sized size (out-Value v.now) ∷ []) h ∙ sym (made_more (λ w. is_sized size (out-Value w)) vs i v lt is)

pub nulls_more : (n : ℕ) → nulls (n + 1) ≡ nulls n ++ null ∷ []
nulls_more zero = refl
nulls_more (suc n) = let e : suc n + 1 ≡ suc (n + 1) = omega arith in ap nulls e ∙ ap (λ l. null ∷ l) (nulls_more n)

-- ---- slots

abbrev shown_list : ℕ → List Bool → List Slot → ℕ → Slot
shown_list size bs cs i = cond (slice_index_or bs i false) (fixed_list_at size cs i) slot.Null

module _ (r : Layer → Meaning) (size : ℕ) where
  by_test : (b : Bool) (items : List Json) (xs : List Slot) → map (means r) (cond b items (nulls size)) ≡ map slot_of xs
      → cond b (made_of slot.List (together (map (means r) items))) (slot_of slot.Null) ≡ slot_of (cond b (slot.List xs) slot.Null)
  by_test true items xs e = made slot.List (map (means r) items) xs e
  by_test false items xs e = refl

  one_list : (l : Layer) (xs : List Slot) → map (means r) (sized_items size l) ≡ map slot_of xs → sized_list_in size (means r) l ≡ slot_of (cond (is_sized size l) (slot.List xs) slot.Null)
  one_list (layer.Array items) xs e = by_test (eqb (length items) size) items xs e
  one_list layer.Null xs e = refl
  one_list (layer.Bool b) xs e = refl
  one_list (layer.Number n) xs e = refl
  one_list (layer.String text) xs e = refl
  one_list (layer.Object o) xs e = refl

  first_at : (cs : List Slot) → fixed_list_at size cs 0 ≡ slot.List (take size cs)
  first_at cs = ap (λ n. slot.List (take size (drop n cs))) (zero-mul size)

  later_at : (cs : List Slot) (i : ℕ) → fixed_list_at size cs (suc i) ≡ fixed_list_at size (drop size cs) i
  later_at cs i = ap (λ xs. slot.List (take size xs)) (ap (λ n. drop n cs) (mul_suc i size) ∙ sym (drop_drop size (i * size) cs))

  lists_after : (vs : List Json) (cs : List Slot) → map (means r) (all_sized size vs) ≡ map slot_of cs
      → map (means (sized_list_in size (means r))) vs ≡ map slot_of (map (shown_list size (are_sized size vs) cs) (range_with_len 0 (length vs)))
  lists_after [] cs e = refl
  lists_after (v ∷ vs) cs e =
      let l : Layer = out-Value v in
      let s = cut (means r) slot_of (sized_items size l) (all_sized size vs) cs e in
      let k = items_length size l in
      let first : sized_list_in size (means r) l ≡ slot_of (shown_list size (are_sized size (v ∷ vs)) cs 0) =
      one_list l (take size cs) (s.0 ∙ ap (λ n. map slot_of (take n cs)) k) ∙ ap (λ x. slot_of (cond (is_sized size l) x slot.Null)) (sym (first_at cs)) in
      let others = lists_after vs (drop size cs) (s.1 ∙ ap (λ n. map slot_of (drop n cs)) k) in
      let alike : map (shown_list size (are_sized size (v ∷ vs)) cs) (range_with_len 1 (length vs)) ≡ map (shown_list size (are_sized size vs) (drop size cs)) (range_with_len 0 (length vs)) =
      made_alike (shown_list size (are_sized size (v ∷ vs)) cs) (shown_list size (are_sized size vs) (drop size cs)) 1 0 (length vs)
      (λ i m. let a : 1 + i ≡ suc i = omega arith in let b : 0 + i ≡ i = omega arith in rw (a, b) (ap (λ x. cond (slice_index_or (are_sized size vs) i false) x slot.Null) (later_at cs i))) in
      λ i. first i ∷ (others ∙ ap (map slot_of) (sym alike)) i

  count_sized : (vs : List Json) → length (are_sized size vs) ≡ length vs
  count_sized vs = length-map vs (λ v. is_sized size (out-Value v))

  -- the lists of the items' slots
  list_slots : (vs : List Json) (cs : List Slot) → AreSlotsOf r (all_sized size vs) cs → AreSlotsOf (sized_list_in size (means r)) vs (slots_where (are_sized size vs) (fixed_list_at size cs))
  list_slots vs cs e =
      lists_after vs cs e
      ∙ ap (map slot_of) (ap (λ n. map (shown_list size (are_sized size vs) cs) (range_with_len 0 n)) (sym (count_sized vs))
      ∙ made_alike (shown_list size (are_sized size vs) cs) (λ i. cond (slice_index_or (are_sized size vs) i false) (fixed_list_at size cs (0 + i)) slot.Null) 0 0 (length (are_sized size vs)) (λ i m. rw (zero-add i) (rw (zero-add i) refl)))

  -- ---- faults

  module _ (P : Meaning → Type 0) (no_null : P (means r null) → ⊥) where
    among_nulls : (n : ℕ) → AnyOf (λ v. P (means r v)) (nulls n) → ⊥
    among_nulls zero h = absurd h
    among_nulls (suc n) (inl p) = no_null p
    among_nulls (suc n) (inr h) = among_nulls n h

    in_items : (b : Bool) (items : List Json) → AnyOf (λ v. P (means r v)) (cond b items (nulls size)) → (b ≡ true) × AnyOf P (map (means r) items)
    in_items true items h = (refl, in_map P (means r) items h)
    in_items false items h = absurd (among_nulls size h)

  module _ (null_is : means r null ≡ slot_of slot.Null) where
    no_text : means r null ≡ text_timestamp → ⊥
    no_text e = text_is_slot slot.Null (sym null_is ∙ e)

    no_none : IsNoSlot (means r null) → ⊥
    no_none h = absurd (subst IsNoSlot null_is h)

    text_in_list : (l : Layer) → AnyOf (λ v. means r v ≡ text_timestamp) (sized_items size l) → sized_list_in size (means r) l ≡ text_timestamp
    text_in_list (layer.Array items) h =
        let k = in_items (λ m. m ≡ text_timestamp) no_text (eqb (length items) size) items h in
        ap (λ b. cond b (made_of slot.List (together (map (means r) items))) (slot_of slot.Null)) k.0 ∙ made_text slot.List (map (means r) items) k.1
    text_in_list layer.Null h = absurd (among_nulls (λ m. m ≡ text_timestamp) no_text size h)
    text_in_list (layer.Bool x) h = absurd (among_nulls (λ m. m ≡ text_timestamp) no_text size h)
    text_in_list (layer.Number n) h = absurd (among_nulls (λ m. m ≡ text_timestamp) no_text size h)
    text_in_list (layer.String text) h = absurd (among_nulls (λ m. m ≡ text_timestamp) no_text size h)
    text_in_list (layer.Object o) h = absurd (among_nulls (λ m. m ≡ text_timestamp) no_text size h)

    none_in_list : (l : Layer) → AnyOf (λ v. IsNoSlot (means r v)) (sized_items size l) → IsNoSlot (sized_list_in size (means r) l)
    none_in_list (layer.Array items) h =
        let k = in_items IsNoSlot no_none (eqb (length items) size) items h in
        subst (λ b. IsNoSlot (cond b (made_of slot.List (together (map (means r) items))) (slot_of slot.Null))) (sym k.0) (made_none slot.List (map (means r) items) k.1)
    none_in_list layer.Null h = absurd (among_nulls IsNoSlot no_none size h)
    none_in_list (layer.Bool x) h = absurd (among_nulls IsNoSlot no_none size h)
    none_in_list (layer.Number n) h = absurd (among_nulls IsNoSlot no_none size h)
    none_in_list (layer.String text) h = absurd (among_nulls IsNoSlot no_none size h)
    none_in_list (layer.Object o) h = absurd (among_nulls IsNoSlot no_none size h)

    text_in_lists : (vs : List Json) → AnyOf (λ v. means r v ≡ text_timestamp) (all_sized size vs) → AnyOf (λ v. means (sized_list_in size (means r)) v ≡ text_timestamp) vs
    text_in_lists [] h = absurd h
    text_in_lists (v ∷ vs) h = elim (of_append (λ w. means r w ≡ text_timestamp) (sized_items size (out-Value v)) (all_sized size vs) h) [
      | inl a ↦ inl (text_in_list (out-Value v) a)
      | inr b ↦ inr (text_in_lists vs b)
    ]

    none_in_lists : (vs : List Json) → AnyOf (λ v. IsNoSlot (means r v)) (all_sized size vs) → AnyOf (λ v. IsNoSlot (means (sized_list_in size (means r)) v)) vs
    none_in_lists [] h = absurd h
    none_in_lists (v ∷ vs) h = elim (of_append (λ w. IsNoSlot (means r w)) (sized_items size (out-Value v)) (all_sized size vs) h) [
      | inl a ↦ inl (none_in_list (out-Value v) a)
      | inr b ↦ inr (none_in_lists vs b)
    ]

-- a fault of the items is one of the lists
pub item_fault : (size : ℕ) (f : Field) (vs ws : List Json) (e : Error) → ws ≡ all_sized size vs → IsFault f.data_type ws e → IsSizedFault size f vs e
item_fault size f vs ws e we h = told (subst (λ z. IsFault f.data_type z e) we h)
  where
    told : IsFault f.data_type (all_sized size vs) e → IsSizedFault size f vs e
    told (inl o) = inl o
    told (inr (inl o)) =
        let r = reading f.data_type in
        inr (inl (o.0, to_any (λ v. means (sized_list_in size (means r)) v ≡ text_timestamp) vs (text_in_lists r size (null_means f.data_type) vs (from_any (λ v. means r v ≡ text_timestamp) (all_sized size vs) o.1))))
    told (inr (inr o)) =
        let r = reading f.data_type in
        inr (inr (
          o.0,
          elim o.1 [
            | inl a ↦ inl (to_any (λ v. IsNoSlot (means (sized_list_in size (means r)) v)) vs (none_in_lists r size (null_means f.data_type) vs (from_any (λ v. IsNoSlot (means r v)) (all_sized size vs) a)))
            | inr b ↦ inr b
          ],
        ))

-- ---- arrays

-- the items of so many lists
pub items_enough : (r : Layer → Meaning) (size : ℕ) (vs ws : List Json) (bs : List Bool) (ss : List Slot) → bs ≡ are_sized size vs → ws ≡ all_sized size vs → AreSlotsOf r ws ss → length ss ≡ length bs * size
items_enough r size vs ws bs ss be we h =
    column_length r ws ss h ∙ ap length we ∙ all_length size vs ∙ ap (λ n. n * size) (sym (ap length be ∙ length-map vs (λ v. is_sized size (out-Value v))))

module _ (t u item : DataType) (bs : List Bool) (n : ℕ) (v : Packed) (te : u ≡ t) (ve : v.booleans ≡ bs) (filled : 0 < list_size t) (kind : IsFixedListOf t item) (ne : n ≡ length bs * list_size t) where
  count_is : n / list_size t ≡ length bs
  count_is = ap (λ m. m / list_size t) ne ∙ mul-div_cancel (length bs) filled

  pub sized_parts : FixedListFits u item n (Some v)
  sized_parts = rw te (record {
    filled = filled;
    kind = kind;
    whole_lists = rw ne (mul-mod_left (length bs) (list_size t));
    validity_fits = ap length ve ∙ sym count_is;
  })

  pub sized_array_slots : (xs : List Slot) → slots_of (fixed_list_at (list_size u) xs) (Some v) 0 (n / list_size u) ≡ slots_where bs (fixed_list_at (list_size t) xs)
  sized_array_slots xs = rw (te, count_is, ve) refl

-- the column of the lists
pub lists_column : (r : Layer → Meaning) (size : ℕ) (vs ws : List Json) (bs : List Bool) (ss : List Slot) (a : Result Array Error) → bs ≡ are_sized size vs → ws ≡ all_sized size vs → AreSlotsOf r ws ss
    → IfOk a (λ x. array_slots x ≡ slots_where bs (fixed_list_at size ss)) → IfOk a (λ x. AreSlotsOf (sized_list_in size (means r)) vs (array_slots x))
lists_column r size vs ws bs ss (Err e) be we h s = tt
lists_column r size vs ws bs ss (Ok x) be we h s =
    subst (AreSlotsOf (sized_list_in size (means r)) vs) (sym (s ∙ ap (λ z. slots_where z (fixed_list_at size ss)) be)) (list_slots r size vs ss (subst (λ z. AreSlotsOf r z ss) we h))

-- ---- what the array's parts are, where the type is one of lists of so many

size_is : (t : DataType) (f : Field) (n : ℕ) → t ≡ types.FixedSizeList f n → list_size t ≡ n
unfolding shape-the_row-Field-0 hidden-the_row-Field-0 denote.Hole.Carrier.hidden
size_is t f n e = ap list_size e

module _ (t : DataType) (f : Field) (size : ℕ) (e : t ≡ types.FixedSizeList f size) where
  pub kind_is : (item : DataType) → item ≡ f.data_type → IsFixedListOf t item
  kind_is item i = (f, e ∙ ap (types.FixedSizeList f) (sym (size_is t f size e)), sym i)

  pub filled_is : 0 < size → 0 < list_size t
  filled_is h = subst (λ k. 0 < k) (sym (size_is t f size e)) h

  pub whole_is : (n m : ℕ) → n ≡ m * size → n ≡ m * list_size t
  whole_is n m h = h ∙ ap (λ k. m * k) (sym (size_is t f size e))

  pub slots_are : (bs : List Bool) (ss : List Slot) (a : Result Array Error) → IfOk a (λ x. array_slots x ≡ slots_where bs (fixed_list_at (list_size t) ss)) → IfOk a (λ x. array_slots x ≡ slots_where bs (fixed_list_at size ss))
  slots_are bs ss a h = subst (λ k. IfOk a (λ x. array_slots x ≡ slots_where bs (fixed_list_at k ss))) (size_is t f size e) h

pub lend_null : (start old new : List (Bor Json)) (n : ℕ) (b : Bor Json) → b.now ≡ null → new ≡ old ++ b ∷ [] → lent old ≡ lent start ++ nulls n → lent new ≡ lent start ++ nulls (n + 1)
lend_null start old new n b is e h =
    ap lent e ∙ map-append (λ (r : Bor Json). r.now) old (b ∷ []) ∙ (λ j. h j ++ is j ∷ []) ∙ append_assoc (lent start) (nulls n) (null ∷ [])
    ∙ ap (λ (l : List Json). lent start ++ l) (sym (nulls_more n))

-- ---- one value

pub sized_yes : (size : ℕ) (v : Json) (items : List Json) → v ≡ variant.Array items → length items ≡ size → (is_sized size (out-Value v) ≡ true) × (sized_items size (out-Value v) ≡ items)
sized_yes size v items e q =
    let t : eqb (length items) size ≡ true = (unsigned_Decides (length items) size).1 q in
    (ap (is_sized size) (array_layer v items e) ∙ t, ap (sized_items size) (array_layer v items e) ∙ ap (λ b. cond b items (nulls size)) t)

other_size : (n m : ℕ) → (n ≡ m → ⊥) → eqb n m ≡ false
other_size n m q = by_test (eqb n m) refl
  where
    by_test : (b : Bool) → eqb n m ≡ b → eqb n m ≡ false
    by_test true e = absurd (q (same_size n m e))
    by_test false e = e

pub sized_no : (size : ℕ) (v : Json) (items : List Json) → v ≡ variant.Array items → (length items ≡ size → ⊥) → (is_sized size (out-Value v) ≡ false) × (sized_items size (out-Value v) ≡ nulls size)
sized_no size v items e q =
    let t : eqb (length items) size ≡ false = other_size (length items) size q in
    (ap (is_sized size) (array_layer v items e) ∙ t, ap (sized_items size) (array_layer v items e) ∙ ap (λ b. cond b items (nulls size)) t)

pub no_list : (size : ℕ) (v : Json) → ((items : List Json) → v ≡ variant.Array items → ⊥) → (is_sized size (out-Value v) ≡ false) × (sized_items size (out-Value v) ≡ nulls size)
no_list size v other = (
  no_array (is_sized size) false refl (λ b. refl) (λ n. refl) (λ t. refl) (λ o. refl) v other,
  no_array (sized_items size) (nulls size) refl (λ b. refl) (λ n. refl) (λ t. refl) (λ o. refl) v other,
)
