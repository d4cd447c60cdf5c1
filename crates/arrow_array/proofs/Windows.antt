-- Slots that are made by index: how many there are, which they are, and which of them are held.
use Rattle.std.proofs.Common.{◌≡◌, zero, suc, [], ◌∷◌, sym, ◌∙◌, ap, refl, arith, ℕ, ◌+◌, ◌-◌, ◌<◌, ◌≤◌, Bool, true, false, cond, List, map, length, take, drop, slice_index_or, Option, Some, None, ℤ, pos, IsTrue, zero-add}
use Rattle.std.specs.List.{All}
use Rattle.std.proofs.lemmas.List.{get_or-map}
use Rattle.std.proofs.lemmas.List.FromFn.{length-map-range_with_len, get_or-map-range_with_len}
use Rattle.arrow_core.specs.declared.slot.Slot.{Slot}
use Rattle.arrow_core.specs.declared.slot.Slot.TheVariants as slot
use Rattle.arrow_core.specs.Numbers.{slot_of_numbers}
use Rattle.arrow_array.specs.Bits.{Packed}
use Rattle.arrow_array.specs.Columns.{Column, ContentColumn, NestedColumn}
use Rattle.arrow_array.specs.Offsets.{offset_at, part}
use Rattle.arrow_array.specs.Parts.{IsValidityOf}
use Rattle.arrow_array.specs.Slots.{slot_at, is_held, valid_at, TellsHeld, shown, slots_of, native_at}

-- n indices from start on, at which f makes slots, lie within len, and the validity has as many
pub record Window (f : ℕ → Slot) (validity : Option Packed) (start n len : ℕ) : Type 0 where
  pub within : start + n ≤ len
  pub validity_fits : IsValidityOf validity n

-- the slots of what a view gives
pub slots_are : {a b : Column} → a ≡ b → a.slots ≡ b.slots
slots_are e = ap (λ (c : Column). c.slots) e

pub types_are : {a b : Column} → a ≡ b → a.data_type ≡ b.data_type
types_are e = ap (λ (c : Column). c.data_type) e

pub nested_slots_are : {a b : NestedColumn} → a ≡ b → a.slots ≡ b.slots
nested_slots_are e = ap (λ (c : NestedColumn). c.slots) e

pub nested_types_are : {a b : NestedColumn} → a ≡ b → a.data_type ≡ b.data_type
nested_types_are e = ap (λ (c : NestedColumn). c.data_type) e

pub nested_dictionaries_are : {a b : NestedColumn} → a ≡ b → a.dictionaries ≡ b.dictionaries
nested_dictionaries_are e = ap (λ (c : NestedColumn). c.dictionaries) e

pub text_slots_are : {a b : ContentColumn} → a ≡ b → a.slots ≡ b.slots
text_slots_are e = ap (λ (c : ContentColumn). c.slots) e

pub text_types_are : {a b : ContentColumn} → a ≡ b → a.data_type ≡ b.data_type
text_types_are e = ap (λ (c : ContentColumn). c.data_type) e

-- a slot that is held is what is made at its index
if_held : (b : Bool) (x y : Slot) → y ≡ cond b x slot.Null → IsTrue (is_held y) → y ≡ x
if_held true x y d h = d
if_held false x y d h = let e : false ≡ true = rw d at h in cc

shown_is : (v : Option Packed) (i : ℕ) (x y : Slot) → y ≡ shown v i x → IsTrue (is_held y) → y ≡ x
shown_is None i x y e h = e
shown_is (Some v) i x y e h = if_held (slice_index_or v.booleans i false) x y e h

-- a slot is held where the validity says so, if what is made at its index is held
held_as : (b : Bool) (x : Slot) → IsTrue (is_held x) → b ≡ is_held (cond b x slot.Null)
held_as true x h = sym h
held_as false x h = refl

shown_held : (v : Option Packed) (i : ℕ) (x y : Slot) → IsTrue (is_held x) → y ≡ shown v i x → valid_at v i ≡ is_held y
shown_held None i x y h e = rw e (sym h)
shown_held (Some v) i x y h e = rw e (held_as (slice_index_or v.booleans i false) x h)

bits_are : (bits : List Bool) (xs : List Slot) → length bits ≡ length xs → ((i : ℕ) → i < length xs → slice_index_or bits i false ≡ is_held (slot_at xs i)) → bits ≡ map is_held xs
bits_are [] [] e h = refl
bits_are [] (x ∷ xs) e h = absurd (omega (arith, e))
bits_are (b ∷ bits) [] e h = absurd (omega (arith, e))
bits_are (b ∷ bits) (x ∷ xs) e h =
    let t : bits ≡ map is_held xs = bits_are bits xs (omega (arith, e)) (λ i l. h (suc i) (omega (arith, l))) in
    let u : b ≡ is_held x = h zero (omega arith) in
    rw (t, u) refl

all_held : (xs : List Slot) → ((i : ℕ) → i < length xs → true ≡ is_held (slot_at xs i)) → All (λ x. IsTrue (is_held x)) xs
all_held [] h i d l = absurd (omega (arith, l))
all_held (x ∷ xs) h zero d l = sym (h zero (omega arith))
all_held (x ∷ xs) h (suc i) d l = all_held xs (λ j m. h (suc j) (omega (arith, m))) i d (omega (arith, l))

says : (v : Option Packed) (n : ℕ) (xs : List Slot) → IsValidityOf v n → n ≡ length xs → ((i : ℕ) → i < n → valid_at v i ≡ is_held (slot_at xs i)) → TellsHeld v xs
says None n xs f e h = all_held xs (λ i l. h i (omega (arith, l, e)))
says (Some v) n xs f e h = bits_are v.booleans xs (f ∙ e) (λ i l. h i (omega (arith, l, e)))

module _ {f : ℕ → Slot} {v : Option Packed} {s n len : ℕ} {xs : List Slot} (w : Window f v s n len) (is : slots_of f v s n ≡ xs) where
  pub count_slots : n ≡ length xs
  count_slots = rw (← is) (sym (length-map-range_with_len (λ i. shown v i (f (s + i))) 0 n))

  pub read_slot : (i : ℕ) → i < n → slot_at xs i ≡ shown v i (f (s + i))
  read_slot i l = rw (← is) (get_or-map-range_with_len (λ i. shown v i (f (s + i))) 0 n i i slot.Null l (omega arith))

  -- a held slot is what is made at its index
  pub read_held : (i : ℕ) → i < n → IsTrue (is_held (slot_at xs i)) → slot_at xs i ≡ f (s + i)
  read_held i l h = shown_is v i (f (s + i)) (slot_at xs i) (read_slot i l) h

  pub read_valid : (i : ℕ) → i < n → IsTrue (is_held (f (s + i))) → valid_at v i ≡ is_held (slot_at xs i)
  read_valid i l h = shown_held v i (f (s + i)) _ h (read_slot i l)

  pub validity_says : ((i : ℕ) → i < n → IsTrue (is_held (f (s + i)))) → TellsHeld v xs
  validity_says h = says v n xs w.validity_fits count_slots (λ i l. read_valid i l (h i l))

-- a held slot is what is made at its index, where the indices are counted from 0
pub read_made : {f : ℕ → Slot} {v : Option Packed} {n len : ℕ} {xs : List Slot} → Window f v 0 n len → slots_of f v 0 n ≡ xs → (i : ℕ) → i < n → IsTrue (is_held (slot_at xs i)) → slot_at xs i ≡ f i
read_made {f} w is i l h = read_held w is i l h ∙ ap f (zero-add i)

-- the value of a held slot
pub read_native : {X : Type 0} (native : X → Slot) (values : List X) {v : Option Packed} {n len : ℕ} {xs : List Slot}
    → Window (native_at native values) v 0 n len → slots_of (native_at native values) v 0 n ≡ xs → (i : ℕ) (x : X) → i < n → i < length values → x ≡ slice_index_or values i x
    → IsTrue (is_held (slot_at xs i)) → slot_at xs i ≡ native x
read_native native values w is i x l m e h = read_made w is i l h ∙ get_or-map native values i x slot.Null m ∙ ap native (sym e)

pub native_held : {X : Type 0} (native : X → Slot) → ((x : X) → IsTrue (is_held (native x))) → (values : List X) (k : ℕ) → k < length values → IsTrue (is_held (native_at native values k))
native_held native h [] k l = absurd (omega (arith, l))
native_held native h (x ∷ values) zero l = h x
native_held native h (x ∷ values) (suc k) l = native_held native h values k (omega (arith, l))

slot_of_numbers_held : (ns : List ℤ) → IsTrue (is_held (slot_of_numbers ns))
slot_of_numbers_held [] = refl
slot_of_numbers_held (n ∷ []) = refl
slot_of_numbers_held (n ∷ m ∷ ns) = refl

-- the slot of a value holds something
pub slot_held : {X : Type 0} (native : X → Slot) (numbers : X → List ℤ) → ((x : X) → native x ≡ slot_of_numbers (numbers x)) → (x : X) → IsTrue (is_held (native x))
slot_held native numbers tells x = rw (tells x) (slot_of_numbers_held (numbers x))

-- the part between two offsets
pub part_is : {X : Type 0} (offsets : List ℤ) (k : ℕ) (xs : List X) (a b : ℕ) → offset_at offsets k ≡ pos a → offset_at offsets (k + 1) ≡ pos b → part offsets xs k ≡ take (b - a) (drop a xs)
part_is offsets k xs a b e d = rw (e, d) refl
