-- Slots that lie in children: one more of them, and the arrays of them.
use Rattle.std.proofs.Math.Nat.{mul-le-mul_right}
use Rattle.std.proofs.Common.{◌≡◌, ap, ◌∙◌, sym, Bool, true, false, cond, ℕ, zero, suc, ◌+◌, ◌-◌, ◌*◌, ◌<◌, ◌≤◌, List, [], ◌∷◌, ◌++◌, map, length, take, drop, slice_index_or, Option, Some, None, refl, arith, append_assoc, pos, zero-add}
use Rattle.std.specs.Option.{is_some}
use Rattle.std.specs.List.{range_with_len}
use Rattle.std.proofs.lemmas.List.{length_push, take_all, length-drop}
use Rattle.arrow_core.specs.declared.slot.Slot.{Slot}
use Rattle.arrow_core.specs.declared.slot.Slot.TheVariants as slot
use Rattle.arrow_array.specs.Bits.{Packed}
use Rattle.arrow_array.specs.FixedLists.{fixed_list_at}
use Rattle.arrow_array.specs.Lists.{list_at}
use Rattle.arrow_array.specs.Slots.{slot_at, slots_of}
use Rattle.arrow_array.specs.Structs.{record_at}
use Rattle.arrow_flat.specs.Bits.{mask_of}
use Rattle.arrow_flat.specs.Builders.{slots_where}
use Rattle.arrow_builders.specs.MutableArrays.{builder_slots}
use Rattle.arrow_flat.specs.Nested.{list_len, items_of, slots_from, list_slot, lists_from, ends_from, offsets_of, fixed_list_slot, null_slots}
use Rattle.arrow_builders.specs.declared.array.MutableArray.{MutableArray}
use Rattle.arrow_flat.proofs.Bits.{made_alike}
use Rattle.arrow_flat.proofs.ListOffsets.{slots_from-cut}
use Rattle.arrow_flat.proofs.Slots.{slots_of-push}

-- ---- one slot more

pub slots_where-push : (f g : ℕ → Slot) (ts ss : List Bool) (v : Bool) → ss ≡ ts ++ v ∷ [] → ((k : ℕ) → k < length ts → g k ≡ f k) → slots_where ss g ≡ slots_where ts f ++ (cond v (g (length ts)) slot.Null) ∷ []
slots_where-push f g ts ss v e same = rw e (rw (length_push ts v) (slots_of-push f g ts (length ts) v (g (length ts)) refl same refl))

-- ---- nulls past the last slot

null_slots-append : (m n : ℕ) → null_slots m ++ null_slots n ≡ null_slots (m + n)
null_slots-append zero n = let e : zero + n ≡ n = omega arith in rw e refl
null_slots-append (suc m) n = let e : suc m + n ≡ suc (m + n) = omega arith in rw e (ap (λ (ys : List Slot). slot.Null ∷ ys) (null_slots-append m n))

pub nulls-append : (xs : List Slot) (m n : ℕ) → (xs ++ null_slots m) ++ null_slots n ≡ xs ++ null_slots (m + n)
nulls-append xs m n = append_assoc xs (null_slots m) (null_slots n) ∙ ap (λ (ys : List Slot). xs ++ ys) (null_slots-append m n)

past : (n k : ℕ) → slot_at (null_slots n) k ≡ slot.Null
past zero k = refl
past (suc n) zero = refl
past (suc n) (suc k) = past n k

pub slot_at-nulls : (xs : List Slot) (n k : ℕ) → slot_at (xs ++ null_slots n) k ≡ slot_at xs k
slot_at-nulls [] n k = past n k
slot_at-nulls (x ∷ xs) n zero = refl
slot_at-nulls (x ∷ xs) n (suc k) = slot_at-nulls xs n k

pub slots_from-nulls : (xs : List Slot) (n start m : ℕ) → slots_from (xs ++ null_slots n) start m ≡ slots_from xs start m
slots_from-nulls xs n start m = made_alike (slot_at (xs ++ null_slots n)) (slot_at xs) start start m (λ i l. slot_at-nulls xs n (start + i))

pub fixed_list-nulls : (size n : ℕ) (xs : List Slot) (k : ℕ) → fixed_list_slot size (xs ++ null_slots n) k ≡ fixed_list_slot size xs k
fixed_list-nulls size n xs k = ap slot.List (slots_from-nulls xs n (k * size) size)

slot_at-null : (xs : List Slot) (k : ℕ) → slot_at (xs ++ slot.Null ∷ []) k ≡ slot_at xs k
slot_at-null [] zero = refl
slot_at-null [] (suc k) = refl
slot_at-null (x ∷ xs) zero = refl
slot_at-null (x ∷ xs) (suc k) = slot_at-null xs k

fields-null : (bs : List MutableArray) (k : ℕ) → map (λ slots. slot_at slots k) (map (λ b. builder_slots b ++ slot.Null ∷ []) bs) ≡ map (λ slots. slot_at slots k) (map builder_slots bs)
fields-null [] k = refl
fields-null (b ∷ bs) k = let e = slot_at-null (builder_slots b) k in let d = fields-null bs k in rw (e, d) refl

pub record-null : (bs : List MutableArray) (k : ℕ) → record_at (map (λ b. builder_slots b ++ slot.Null ∷ []) bs) k ≡ record_at (map builder_slots bs) k
record-null bs k = ap slot.Struct (fields-null bs k)

-- a null fixed-size list, beneath which the child takes nulls
pub fixed_null : (size now n : ℕ) (xs ys : List Slot) (ts ss : List Bool) → now ≡ size → ys ≡ xs ++ null_slots n → ss ≡ ts ++ false ∷ [] → slots_where ss (fixed_list_slot now ys) ≡ slots_where ts (fixed_list_slot size xs) ++ slot.Null ∷ []
fixed_null size now n xs ys ts ss e d s = rw (e, d) (slots_where-push (fixed_list_slot size xs) (fixed_list_slot size (xs ++ null_slots n)) ts ss false s (λ k l. fixed_list-nulls size n xs k))

-- a null struct, beneath which each child takes a null
pub record_null : (bs cs : List MutableArray) (ts ss : List Bool) → map builder_slots cs ≡ map (λ b. builder_slots b ++ slot.Null ∷ []) bs → ss ≡ ts ++ false ∷ [] → slots_where ss (record_at (map builder_slots cs)) ≡ slots_where ts (record_at (map builder_slots bs)) ++ slot.Null ∷ []
record_null bs cs ts ss e s = rw e (slots_where-push (record_at (map builder_slots bs)) (record_at (map (λ b. builder_slots b ++ slot.Null ∷ []) bs)) ts ss false s (λ k l. record-null bs k))

-- ---- one list more, of the length that each has

pub fixed_list-rest : (size n : ℕ) (xs : List Slot) → length xs ≡ (n + 1) * size → fixed_list_slot size xs n ≡ slot.List (drop (n * size) xs)
fixed_list-rest size n xs l =
    let e : (n + 1) * size ≡ n * size + size = omega arith in
    ap slot.List (slots_from-cut xs (n * size) size (omega (arith, l, e)) ∙ take_all size (drop (n * size) xs) (omega (arith, l, e, length-drop (n * size) xs)))

pub fixed_more : (size now : ℕ) (xs : List Slot) (ts ss : List Bool) → now ≡ size → length xs ≡ (length ts + 1) * size → ss ≡ ts ++ true ∷ [] → slots_where ss (fixed_list_slot now xs) ≡ slots_where ts (fixed_list_slot size xs) ++ slot.List (drop (length ts * size) xs) ∷ []
fixed_more size now xs ts ss e l s =
    let p : slots_where ss (fixed_list_slot size xs) ≡ slots_where ts (fixed_list_slot size xs) ++ fixed_list_slot size xs (length ts) ∷ [] = slots_where-push (fixed_list_slot size xs) (fixed_list_slot size xs) ts ss true s (λ k h. refl) in
    rw e (p ∙ ap (λ x. slots_where ts (fixed_list_slot size xs) ++ x ∷ []) (fixed_list-rest size (length ts) xs l))

-- a valid struct is that of the children's slots at its index
pub record_more : (children : List (List Slot)) (ts ss : List Bool) → ss ≡ ts ++ true ∷ [] → slots_where ss (record_at children) ≡ slots_where ts (record_at children) ++ record_at children (length ts) ∷ []
record_more children ts ss s = slots_where-push (record_at children) (record_at children) ts ss true s (λ k h. refl)

-- ---- the arrays

pub slots_of-alike : (f g : ℕ → Slot) (v : Packed) (ts : List Bool) (m n : ℕ) → v.booleans ≡ ts → m ≡ n → ((k : ℕ) → k < n → f k ≡ g k) → slots_of f (Some v) 0 m ≡ slots_of g (Some (mask_of ts)) 0 n
slots_of-alike f g v ts m n d l same = rw (d, l) (made_alike (λ i. cond (slice_index_or ts i false) (f (0 + i)) slot.Null) (λ i. cond (slice_index_or ts i false) (g (0 + i)) slot.Null) 0 0 n
    (λ i h. rw (zero-add i) (rw (zero-add i) (ap (λ x. cond (slice_index_or ts i false) x slot.Null) (same i h)))))

pub fixed_lists-array : (size count : ℕ) (xs : List Slot) (v : Packed) (ts : List Bool) (m : ℕ) → length xs ≡ count * size → v.booleans ≡ ts → m ≡ length ts → count ≡ length ts
    → slots_of (fixed_list_at size xs) (Some v) 0 m ≡ slots_where ts (fixed_list_slot size xs)
fixed_lists-array size count xs v ts m l d e c = slots_of-alike (fixed_list_at size xs) (fixed_list_slot size xs) v ts m (length ts) d e (λ k h.
    let p : (k + 1) * size ≤ count * size = mul-le-mul_right size (omega (arith, h, c)) in
    let q : (k + 1) * size ≡ k * size + size = omega arith in
    ap slot.List (sym (slots_from-cut xs (k * size) size (omega (arith, p, q, l)))))

-- the lists between the offsets, where the child has their items
between_ends : (s : ℕ) (l : Option ℕ) (ls : List (Option ℕ)) (xs : List Slot) → s + list_len l ≤ length xs → cond (is_some l) (list_at (pos s ∷ ends_from s (l ∷ ls)) xs 0) slot.Null ≡ list_slot xs s l
between_ends s None ls xs h = refl
between_ends s (Some n) ls xs h =
    let e : s + n - s ≡ n = omega arith in
    ap slot.List (ap (λ m. take m (drop s xs)) e ∙ sym (slots_from-cut xs s n h))

abbrev shown_list : ℕ → List (Option ℕ) → List Slot → ℕ → Slot
shown_list s ls xs i = cond (slice_index_or (map is_some ls) i false) (list_at (pos s ∷ ends_from s ls) xs i) slot.Null

shown_lists : (s : ℕ) (ls : List (Option ℕ)) (xs : List Slot) → s + items_of ls ≤ length xs → map (shown_list s ls xs) (range_with_len 0 (length ls)) ≡ lists_from s ls xs
shown_lists s [] xs h = refl
shown_lists s (l ∷ ls) xs h =
    let t : map (shown_list s (l ∷ ls) xs) (range_with_len 1 (length ls)) ≡ map (shown_list (s + list_len l) ls xs) (range_with_len 0 (length ls)) =
    made_alike (shown_list s (l ∷ ls) xs) (shown_list (s + list_len l) ls xs) 1 0 (length ls) (λ i k. let e : 1 + i ≡ suc i = omega arith in let d : 0 + i ≡ i = omega arith in let f : suc i + 1 ≡ suc (i + 1) = omega arith in rw (e, d, f) refl) in
    let a : shown_list s (l ∷ ls) xs 0 ≡ list_slot xs s l = between_ends s l ls xs (omega (arith, h)) in
    let r = shown_lists (s + list_len l) ls xs (omega (arith, h)) in
    rw (t, r, a) refl

pub lists-array : (ls : List (Option ℕ)) (xs : List Slot) (v : Packed) (m : ℕ) → items_of ls ≤ length xs → v.booleans ≡ map is_some ls → m ≡ length ls
    → slots_of (list_at (offsets_of ls) xs) (Some v) 0 m ≡ lists_from 0 ls xs
lists-array ls xs v m h d e = rw (d, e) (made_alike (λ i. cond (slice_index_or (map is_some ls) i false) (list_at (offsets_of ls) xs (0 + i)) slot.Null) (shown_list 0 ls xs) 0 0 (length ls)
    (λ i k. rw (zero-add i) (rw (zero-add i) refl)) ∙ shown_lists 0 ls xs (omega (arith, h)))
