-- Tight builders stay tight where nulls come, and where slots stay.
use Rattle.std.proofs.Common.{◌≡◌, ◌∙◌, ℕ, zero, suc, ◌+◌, ◌*◌, List, [], ◌∷◌, ◌++◌, length, Option, Some, None, Result, Ok, Err, refl, sym, ap, subst, arith}
use Rattle.std.proofs.Math.Nat.{add-mul}
use Rattle.std.proofs.lemmas.List.FromFn.{length-range_with_len}
use Rattle.std.specs.Prelude.{OnOk}
use Rattle.std.specs.List.{range_with_len}
use Rattle.std.proofs.lemmas.List.{length-append, length-map}
use Rattle.arrow_core.specs.declared.slot.Slot.{Slot, out-Slot}
use Rattle.arrow_core.specs.declared.slot.Slot.TheOpen as open_slot
use Rattle.arrow_core.specs.declared.slot.Slot.TheVariants as slot
use Rattle.arrow_core.specs.declared.slot.Slot.TheViews.{outs-List}
use Rattle.arrow_core.specs.declared.types.DataType.{DataType}
use Rattle.arrow_array.specs.FixedLists.{list_size}
use Rattle.arrow_array.specs.Slots.{slot_at}
use Rattle.arrow_array.specs.Structs.{record_at}
use Rattle.arrow_flat.specs.Nested.{list_len, items_of, slots_from, list_slot, lists_from, fixed_list_slot, null_slots}
use Rattle.arrow_flat.proofs.Slots.{length-slots_of}
use Rattle.arrow_builders.specs.MutableArrays.{builder_slots, slots_below, slots_at, slots_at_below}
use Rattle.arrow_builders.specs.Shapes.{Added, Shape, fixed_lists, field, shape, shapes_below, nulls_in, nulls_at, AllGetNulls}
use Rattle.arrow_builders.specs.Tight.{IsTight, TightBelow}
use Rattle.arrow_builders.specs.declared.array.MutableArray.{MutableArray, List', LargeList', FixedSizeList', Struct', Row_of-MutableArray, end_of-MutableArray, more_of-MutableArray}
use Rattle.arrow_builders.specs.declared.array.MutableArray.{Null, Boolean, Int8, Int16, Int32, Int64, UInt8, UInt16, UInt32, UInt64, Int128, MonthDayNano, Utf8, LargeUtf8, Binary, LargeBinary, FixedSizeBinary, Dictionary}
use Rattle.arrow_builders.proofs.Heads.{first_slots}
use Rattle.arrow_builders.proofs.NullsBelow.{none_come}

-- ---- how many items lists have, by their slots

same_items : (xs ys : List Slot) → slot.List xs ≡ slot.List ys → xs ≡ ys
same_items xs ys e = let d : open_slot.List xs ≡ open_slot.List ys = sym (outs-List xs) ∙ ap out-Slot e ∙ outs-List ys in cc

from_length : (xs : List Slot) (s n : ℕ) → length (slots_from xs s n) ≡ n
from_length xs s n = length-map (range_with_len s n) (slot_at xs) ∙ length-range_with_len s n

slot_length : (xs ys : List Slot) (s : ℕ) (l m : Option ℕ) → list_slot ys s m ≡ list_slot xs s l → list_len m ≡ list_len l
slot_length xs ys s None None e = refl
slot_length xs ys s None (Some n) e = absurd cc
slot_length xs ys s (Some n) None e = absurd cc
slot_length xs ys s (Some n) (Some k) e = sym (from_length ys s k) ∙ ap length (same_items (slots_from ys s k) (slots_from xs s n) e) ∙ from_length xs s n

parts : {A : Type 0} (x y : A) (xs ys : List A) → x ∷ xs ≡ y ∷ ys → (x ≡ y) × (xs ≡ ys)
parts x y xs ys e = (cc, cc)

null_length : (ys : List Slot) (s : ℕ) (m : Option ℕ) → list_slot ys s m ≡ slot.Null → list_len m ≡ 0
null_length ys s None e = refl
null_length ys s (Some n) e = absurd cc

items_same : (s : ℕ) (ls ms : List (Option ℕ)) (xs ys : List Slot) (n : ℕ) → lists_from s ms ys ≡ lists_from s ls xs ++ null_slots n → items_of ms ≡ items_of ls
items_same s [] [] xs ys n e = refl
items_same s [] (m ∷ ms) xs ys zero e = absurd cc
items_same s [] (m ∷ ms) xs ys (suc n) e =
    let p = parts (list_slot ys s m) slot.Null (lists_from (s + list_len m) ms ys) (null_slots n) e in
    let z = null_length ys s m p.0 in
    let r = items_same (s + list_len m) [] ms xs ys n p.1 in
    omega (arith, z, r)
items_same s (l ∷ ls) [] xs ys n e = absurd cc
items_same s (l ∷ ls) (m ∷ ms) xs ys n e =
    let p = parts (list_slot ys s m) (list_slot xs s l) (lists_from (s + list_len m) ms ys) (lists_from (s + list_len l) ls xs ++ null_slots n) e in
    let k = slot_length xs ys s l m p.0 in
    let q : lists_from (s + list_len l) ms ys ≡ lists_from (s + list_len l) ls xs ++ null_slots n = subst (λ (j : ℕ). lists_from (s + j) ms ys ≡ lists_from (s + list_len l) ls xs ++ null_slots n) k p.1 in
    let r = items_same (s + list_len l) ls ms xs ys n q in
    omega (arith, k, r)

nulls_length : (n : ℕ) → length (null_slots n) ≡ n
nulls_length zero = refl
nulls_length (suc n) = ap suc (nulls_length n)

-- ---- one null more at the first node

first_nulls : (n : ℕ) (b : MutableArray) → (a : Added) × (more : List Added) × (nulls_in n (shape b) ≡ a ∷ more) × (a.slots ≡ n)
first_nulls n (Null b) = (_, [], refl, refl)
first_nulls n (Boolean b) = (_, [], refl, refl)
first_nulls n (Int8 b) = (_, [], refl, refl)
first_nulls n (Int16 b) = (_, [], refl, refl)
first_nulls n (Int32 b) = (_, [], refl, refl)
first_nulls n (Int64 b) = (_, [], refl, refl)
first_nulls n (UInt8 b) = (_, [], refl, refl)
first_nulls n (UInt16 b) = (_, [], refl, refl)
first_nulls n (UInt32 b) = (_, [], refl, refl)
first_nulls n (UInt64 b) = (_, [], refl, refl)
first_nulls n (Int128 b) = (_, [], refl, refl)
first_nulls n (MonthDayNano b) = (_, [], refl, refl)
first_nulls n (Utf8 b) = (_, [], refl, refl)
first_nulls n (LargeUtf8 b) = (_, [], refl, refl)
first_nulls n (Binary b) = (_, [], refl, refl)
first_nulls n (LargeBinary b) = (_, [], refl, refl)
first_nulls n (FixedSizeBinary b) = (_, [], refl, refl)
first_nulls n (Dictionary b) = (_, [], refl, refl)
first_nulls n (List' l p child) = (_, nulls_in 0 (shape child), refl, refl)
first_nulls n (LargeList' l p child) = (_, nulls_in 0 (shape child), refl, refl)
first_nulls n (FixedSizeList' l p child) = (_, nulls_in (n * list_size l.data_type) (shape child), refl, refl)
first_nulls n (Struct' m p row) = (_, nulls_in n (shapes_below row), refl, refl)

pub slots_grow : (n : ℕ) (b c : MutableArray) → AllGetNulls (nulls_in n (shape b)) (slots_at b) (slots_at c) → builder_slots c ≡ builder_slots b ++ null_slots n
slots_grow n b c h =
    let a = first_nulls n b in
    let x = first_slots b in
    let y = first_slots c in
    let g : AllGetNulls (a.0 ∷ a.1) (builder_slots b ∷ x.0) (builder_slots c ∷ y.0) =
    subst (λ (us : List Added). AllGetNulls us (builder_slots b ∷ x.0) (builder_slots c ∷ y.0)) a.2 (subst (λ (us : List (List Slot)). AllGetNulls (nulls_in n (shape b)) us (builder_slots c ∷ y.0)) x.1 (subst (AllGetNulls (nulls_in n (shape b)) (slots_at b)) y.1 h)) in
    g.0 ∙ ap (λ (k : ℕ). builder_slots b ++ null_slots k) a.3

mutual
  slots_count : (n : ℕ) (b : MutableArray) → length (slots_at b) ≡ length (nulls_in n (shape b))
  slots_count n (Null b) = refl
  slots_count n (Boolean b) = refl
  slots_count n (Int8 b) = refl
  slots_count n (Int16 b) = refl
  slots_count n (Int32 b) = refl
  slots_count n (Int64 b) = refl
  slots_count n (UInt8 b) = refl
  slots_count n (UInt16 b) = refl
  slots_count n (UInt32 b) = refl
  slots_count n (UInt64 b) = refl
  slots_count n (Int128 b) = refl
  slots_count n (MonthDayNano b) = refl
  slots_count n (Utf8 b) = refl
  slots_count n (LargeUtf8 b) = refl
  slots_count n (Binary b) = refl
  slots_count n (LargeBinary b) = refl
  slots_count n (FixedSizeBinary b) = refl
  slots_count n (Dictionary b) = refl
  slots_count n (List' l p child) = ap suc (slots_count 0 child)
  slots_count n (LargeList' l p child) = ap suc (slots_count 0 child)
  slots_count n (FixedSizeList' l p child) = ap suc (slots_count (n * list_size l.data_type) child)
  slots_count n (Struct' m p row) = ap suc (row_count n row)

  row_count : {m : _} (n : ℕ) (row : Row_of-MutableArray m) → length (slots_at_below row) ≡ length (nulls_in n (shapes_below row))
  row_count n end_of-MutableArray = refl
  row_count n (more_of-MutableArray b rest) =
      omega (arith, slots_count n b, row_count n rest, length-append (slots_at b) (slots_at_below rest), length-append (nulls_in n (shape b)) (nulls_in n (shapes_below rest)))

split : (us vs : List Added) (xs ys zs ws : List (List Slot)) → length xs ≡ length us → length zs ≡ length us → AllGetNulls (us ++ vs) (xs ++ ys) (zs ++ ws) → AllGetNulls us xs zs × AllGetNulls vs ys ws
split [] vs [] ys [] ws l m h = (tt, h)
split [] vs (x ∷ xs) ys zs ws l m h = absurd (omega (arith, l))
split [] vs [] ys (z ∷ zs) ws l m h = absurd (omega (arith, m))
split (u ∷ us) vs [] ys zs ws l m h = absurd (omega (arith, l))
split (u ∷ us) vs (x ∷ xs) ys [] ws l m h = absurd (omega (arith, m))
split (u ∷ us) vs (x ∷ xs) ys (z ∷ zs) ws l m h = let r = split us vs xs ys zs ws (omega (arith, l)) (omega (arith, m)) h.1 in ((h.0, r.0), r.1)

halves : (s t u v : Shape) → field s t ≡ field u v → (s ≡ u) × (t ≡ v)
halves s t u v e = (cc, cc)

fixed_size : (t u : DataType) (x y : Shape) → fixed_lists t x ≡ fixed_lists u y → list_size t ≡ list_size u
fixed_size t u x y e = let k : t ≡ u = cc in ap list_size k

mutual
  pub null_tight : (n : ℕ) (b c : MutableArray) → shape c ≡ shape b → AllGetNulls (nulls_in n (shape b)) (slots_at b) (slots_at c) → IsTight b → IsTight c
  null_tight n b (Null c) e h t = tt
  null_tight n b (Boolean c) e h t = tt
  null_tight n b (Int8 c) e h t = tt
  null_tight n b (Int16 c) e h t = tt
  null_tight n b (Int32 c) e h t = tt
  null_tight n b (Int64 c) e h t = tt
  null_tight n b (UInt8 c) e h t = tt
  null_tight n b (UInt16 c) e h t = tt
  null_tight n b (UInt32 c) e h t = tt
  null_tight n b (UInt64 c) e h t = tt
  null_tight n b (Int128 c) e h t = tt
  null_tight n b (MonthDayNano c) e h t = tt
  null_tight n b (Utf8 c) e h t = tt
  null_tight n b (LargeUtf8 c) e h t = tt
  null_tight n b (Binary c) e h t = tt
  null_tight n b (LargeBinary c) e h t = tt
  null_tight n b (FixedSizeBinary c) e h t = tt
  null_tight n b (Dictionary c) e h t = tt
  null_tight n (List' l p child) (List' m q d) e h t =
      let s : shape d ≡ shape child = cc in
      let g = slots_grow 0 child d h.1 in
      let i = items_same 0 l.lens m.lens (builder_slots child) (builder_slots d) n h.0 in
      (omega (arith, ap length g, length-append (builder_slots child) [], t.0, i), null_tight 0 child d s h.1 t.1)
  null_tight n _ (List' m q d) e h t = absurd cc
  null_tight n (LargeList' l p child) (LargeList' m q d) e h t =
      let s : shape d ≡ shape child = cc in
      let g = slots_grow 0 child d h.1 in
      let i = items_same 0 l.lens m.lens (builder_slots child) (builder_slots d) n h.0 in
      (omega (arith, ap length g, length-append (builder_slots child) [], t.0, i), null_tight 0 child d s h.1 t.1)
  null_tight n _ (LargeList' m q d) e h t = absurd cc
  null_tight n (FixedSizeList' l p child) (FixedSizeList' m q d) e h t =
      let s : shape d ≡ shape child = cc in
      let y : list_size m.data_type ≡ list_size l.data_type = fixed_size m.data_type l.data_type (shape d) (shape child) e in
      let g = slots_grow (n * list_size l.data_type) child d h.1 in
      let a = length-slots_of (fixed_list_slot (list_size l.data_type) (builder_slots child)) l.booleans (length l.booleans) in
      let b = length-slots_of (fixed_list_slot (list_size m.data_type) (builder_slots d)) m.booleans (length m.booleans) in
      let c : length m.booleans ≡ length l.booleans + n = omega (arith, a, b, ap length h.0, length-append (builder_slots (FixedSizeList' l p child)) (null_slots n), nulls_length n) in
      let k : length (builder_slots d) ≡ length l.booleans * list_size l.data_type + n * list_size l.data_type = ap length g ∙ length-append (builder_slots child) (null_slots (n * list_size l.data_type)) ∙ omega (arith, t.0, nulls_length (n * list_size l.data_type)) in
      (k ∙ sym (add-mul (length l.booleans) n (list_size l.data_type)) ∙ ap (λ (i : ℕ). i * list_size l.data_type) (sym c) ∙ ap (λ (i : ℕ). length m.booleans * i) (sym y), null_tight (n * list_size l.data_type) child d s h.1 t.1)
  null_tight n _ (FixedSizeList' m q d) e h t = absurd cc
  null_tight n (Struct' m p row) (Struct' k q new) e h t =
      let s : shapes_below new ≡ shapes_below row = cc in
      let a = length-slots_of (record_at (slots_below row)) m.booleans (length m.booleans) in
      let b = length-slots_of (record_at (slots_below new)) k.booleans (length k.booleans) in
      rows_tight n (length m.booleans) (length k.booleans) row new s h.1 (omega (arith, a, b, ap length h.0, length-append (builder_slots (Struct' m p row)) (null_slots n), nulls_length n)) t
  null_tight n _ (Struct' k q new) e h t = absurd cc

  rows_tight : {i j : _} (n x y : ℕ) (row : Row_of-MutableArray i) (new : Row_of-MutableArray j) → shapes_below new ≡ shapes_below row → AllGetNulls (nulls_in n (shapes_below row)) (slots_at_below row) (slots_at_below new) → y ≡ x + n → TightBelow x row → TightBelow y new
  rows_tight n x y row end_of-MutableArray e h l t = tt
  rows_tight n x y end_of-MutableArray (more_of-MutableArray c rest) e h l t = absurd cc
  rows_tight n x y (more_of-MutableArray b row) (more_of-MutableArray c rest) e h l t =
      let p = halves (shape c) (shapes_below rest) (shape b) (shapes_below row) e in
      let q = split (nulls_in n (shape b)) (nulls_in n (shapes_below row)) (slots_at b) (slots_at_below row) (slots_at c) (slots_at_below rest) (slots_count n b) (slots_count n c ∙ ap (λ (s : Shape). length (nulls_in n s)) p.0) h in
      let g = slots_grow n b c q.0 in
      (omega (arith, ap length g, length-append (builder_slots b) (null_slots n), nulls_length n, t.0, l), null_tight n b c p.0 q.0 t.1, rows_tight n x y row rest p.1 q.1 l t.2)

-- ---- answers

pub null_slot : {A E : Type 0} (r : Result A E) (b c : MutableArray) → OnOk r (AllGetNulls (nulls_at 1 b) (slots_at b) (slots_at c)) → OnOk r (builder_slots c ≡ builder_slots b ++ slot.Null ∷ [])
null_slot (Ok x) b c h = slots_grow 1 b c h
null_slot (Err x) b c h = tt

pub pushed_null_tight : {A E : Type 0} (r : Result A E) (b c : MutableArray) → shape c ≡ shape b → OnOk r (AllGetNulls (nulls_at 1 b) (slots_at b) (slots_at c)) → OnOk r (IsTight b → IsTight c)
pushed_null_tight (Ok x) b c e h = null_tight 1 b c e h
pushed_null_tight (Err x) b c e h = tt

pub same_tight : (b c : MutableArray) → shape c ≡ shape b → slots_at c ≡ slots_at b → IsTight b → IsTight c
same_tight b c e h t = null_tight 0 b c e (subst (AllGetNulls (nulls_in 0 (shape b)) (slots_at b)) (sym h) (none_come b)) t
