-- Cuts of buffers, and the slots of them.
use Rattle.std.proofs.Common.{◌≡◌, sym, ◌∙◌, ap, refl, arith, ℕ, ◌+◌, ◌-◌, ◌*◌, ◌/◌, ◌%◌, ◌<◌, ◌≤◌, Bool, false, List, map, length, take, drop, slice_index_or, Option, Some, None, ℤ, pos, get_or-take, get_or-drop, length-take, length-drop, take-take, drop-drop, subst}
use Rattle.std.proofs.lemmas.List.{drop-take, take-map, drop-map}
use Rattle.std.proofs.lemmas.Nat.{mod-mul-add, mul-le, row_fits}
use Rattle.std.proofs.Math.Nat.{div-mul-le_self, mul-div_cancel, add-mul}
use Rattle.std.specs.Str.{IsUtf8}
use Rattle.arrow_core.specs.declared.slot.Slot.{Slot}
use Rattle.arrow_core.specs.declared.types.DataType.{DataType}
use Rattle.arrow_core.specs.declared.slot.Slot.TheVariants as slot
use Rattle.arrow_array.specs.Bits.{Packed}
use Rattle.arrow_array.proofs.BitCuts.{cut_made, made_alike}
use Rattle.arrow_array.specs.Offsets.{offset_at, part, IsOffsets, AreUtf8}
use Rattle.arrow_array.specs.Parts.{IsValidityOf, IsCutOf, Utf8Fits, BinaryFits, FixedSizeBinaryFits, byte_width}
use Rattle.arrow_array.specs.Slots.{shown, slots_of, boolean_at, native_at, utf8_at, binary_at, fixed_at}
use Rattle.arrow_array.proofs.Windows.{Window}

-- a cut of a cut
pub cut_again : {X : Type 0} (a n o k : ℕ) (xs : List X) → o + k ≤ n → take k (drop (a + o) xs) ≡ take k (drop o (take n (drop a xs)))
cut_again a n o k xs l =
    let e : o + (n - o) ≡ n = omega (arith, l) in
    let d : drop o (take n (drop a xs)) ≡ take (n - o) (drop o (drop a xs)) = ap (λ z. drop o (take z (drop a xs))) (sym e) ∙ drop-take o (n - o) (drop a xs) in
    rw d (sym (take-take k (n - o) (drop o (drop a xs)) (omega (arith, l)) ∙ ap (take k) (drop-drop o a xs)))

pub most_of_cut : {X : Type 0} (n a : ℕ) (xs : List X) {ys : List X} → take n (drop a xs) ≡ ys → length ys ≤ n
most_of_cut n a xs is = rw (← is) (omega (arith, length-take n (drop a xs)))

pub map_cut : {X Y : Type 0} (f : X → Y) (o k : ℕ) (xs : List X) → map f (take k (drop o xs)) ≡ take k (drop o (map f xs))
map_cut f o k xs = sym (take-map f k (drop o xs)) ∙ ap (take k) (sym (drop-map f o xs))

pub length_cut : {X : Type 0} (o k : ℕ) (xs : List X) → o + k ≤ length xs → length (take k (drop o xs)) ≡ k
length_cut o k xs l = grind (arith, length-take, length-drop, l)

pub at_cut : {X : Type 0} (o k : ℕ) (xs : List X) (j : ℕ) (d : X) → j < k → slice_index_or (take k (drop o xs)) j d ≡ slice_index_or xs (o + j) d
at_cut o k xs j d l = get_or-take k (drop o xs) j d l ∙ get_or-drop o xs j d

-- a cut of a validity
pub cut_fits : (v u : Option Packed) (o k n : ℕ) → IsValidityOf v n → o + k ≤ n → IsCutOf v o k u → IsValidityOf u k
cut_fits None None o k n h l c = tt
cut_fits None (Some u) o k n h l c = absurd c
cut_fits (Some v) None o k n h l c = absurd c
cut_fits (Some v) (Some u) o k n h l c = rw c (length_cut o k v.booleans (omega (arith, h, l)))

shown_cut : (f g : ℕ → Slot) (v u : Option Packed) (o k i j a b : ℕ) → IsCutOf v o k u → j < k → o + j ≡ i → g a ≡ f b → shown u j (g a) ≡ shown v i (f b)
shown_cut f g None None o k i j a b c h e d = d
shown_cut f g None (Some u) o k i j a b c h e d = absurd c
shown_cut f g (Some v) None o k i j a b c h e d = absurd c
shown_cut f g (Some v) (Some u) o k i j a b c h e d =
    let r : slice_index_or u.booleans j false ≡ slice_index_or v.booleans i false = rw c (at_cut o k v.booleans j false h ∙ ap (λ z. slice_index_or v.booleans z false) e) in
    rw (r, d) refl

-- A cut of slots: f makes the slots from index s on, and g those of the cut from index t on.
pub cut_slots : {f : ℕ → Slot} {v : Option Packed} {s n len : ℕ} {xs : List Slot} → Window f v s n len → slots_of f v s n ≡ xs
    → (g : ℕ → Slot) (u : Option Packed) (t o k : ℕ) → o + k ≤ n → IsCutOf v o k u → ((j : ℕ) → j < k → g (t + j) ≡ f (s + (o + j))) → slots_of g u t k ≡ take k (drop o xs)
cut_slots {f} {v} {s} {n} w is g u t o k l c same = rw (← is)
    (made_alike (λ i. shown u i (g (t + i))) (λ i. shown v i (f (s + i))) 0 o k (λ j m.
    let z : 0 + j ≡ j = omega arith in
    let e : g (t + (0 + j)) ≡ f (s + (o + j)) = rw z (same j m) in
    shown_cut f g v u o k (o + j) (0 + j) (t + (0 + j)) (s + (o + j)) c (omega (arith, m)) (omega arith) e)
    ∙ cut_made (λ i. shown v i (f (s + i))) 0 o o n k (omega arith) l)

-- the same, where all indices are counted from 0
pub cut_made_slots : {f : ℕ → Slot} {v : Option Packed} {n len : ℕ} {xs : List Slot} → Window f v 0 n len → slots_of f v 0 n ≡ xs
    → (g : ℕ → Slot) (u : Option Packed) (o k m : ℕ) → m ≡ k → o + k ≤ n → IsCutOf v o k u → ((j : ℕ) → j < k → g j ≡ f (o + j)) → slots_of g u 0 m ≡ take k (drop o xs)
cut_made_slots {f} w is g u o k m q l c same = rw q (cut_slots w is g u 0 o k l c (λ j h.
    let d : 0 + j ≡ j = omega arith in
    let e : 0 + (o + j) ≡ o + j = omega arith in
    rw (d, e) (same j h)))

pub boolean_cut : (o k : ℕ) (xs : List Bool) (j : ℕ) → j < k → boolean_at (take k (drop o xs)) j ≡ boolean_at xs (o + j)
boolean_cut o k xs j l = ap slot.Boolean (at_cut o k xs j false l)

pub native_cut : {X : Type 0} (native : X → Slot) (o k : ℕ) (xs : List X) (j : ℕ) → j < k → native_at native (take k (drop o xs)) j ≡ native_at native xs (o + j)
native_cut native o k xs j l = rw (map_cut native o k xs) (at_cut o k (map native xs) j slot.Null l)

-- the offsets of k parts from part o on
module _ (o k : ℕ) (offsets : List ℤ) where
  pub offset_cut : (j : ℕ) → j < k + 1 → offset_at (take (k + 1) (drop o offsets)) j ≡ offset_at offsets (o + j)
  offset_cut j l = at_cut o (k + 1) offsets j (pos 0) l

  pub next_cut : (j : ℕ) → j < k → offset_at (take (k + 1) (drop o offsets)) (j + 1) ≡ offset_at offsets (o + j + 1)
  next_cut j l = at_cut o (k + 1) offsets (j + 1) (pos 0) (omega (arith, l)) ∙ ap (λ z. offset_at offsets z) (omega arith)

  pub part_cut : {X : Type 0} (xs : List X) (j : ℕ) → j < k → part (take (k + 1) (drop o offsets)) xs j ≡ part offsets xs (o + j)
  part_cut xs j l = let a = offset_cut j (omega (arith, l)) in let b = next_cut j l in rw (a, b) refl

pub offsets_cut : (o k n : ℕ) (offsets : List ℤ) → o + k < length offsets → IsOffsets offsets n → IsOffsets (take (k + 1) (drop o offsets)) n
offsets_cut o k n offsets l h = record {
  filled = omega (arith, length_cut o (k + 1) offsets (omega (arith, l)));
  within = λ j m.
      let c = length_cut o (k + 1) offsets (omega (arith, l)) in
      rw (offset_cut o k offsets j (omega (arith, m, c))) (h.within (o + j) (omega (arith, m, c, l)));
  rising = λ j m.
      let c = length_cut o (k + 1) offsets (omega (arith, l)) in
      let a = offset_cut o k offsets j (omega (arith, m, c)) in
      let b = next_cut o k offsets j (omega (arith, m, c)) in
      rw (a, b) (h.rising (o + j) (omega (arith, m, c, l)));
}

pub texts_cut : (o k : ℕ) (offsets : List ℤ) (bytes : List ℕ) → o + k < length offsets → AreUtf8 offsets bytes → AreUtf8 (take (k + 1) (drop o offsets)) bytes
texts_cut o k offsets bytes l h = λ j m.
    let c = length_cut o (k + 1) offsets (omega (arith, l)) in
    subst IsUtf8 (sym (part_cut o k offsets bytes j (omega (arith, m, c)))) (h (o + j) (omega (arith, m, c, l)))

pub utf8_cut : (o k : ℕ) (offsets : List ℤ) (bytes : List ℕ) (j : ℕ) → j < k → utf8_at (take (k + 1) (drop o offsets)) bytes j ≡ utf8_at offsets bytes (o + j)
utf8_cut o k offsets bytes j l = ap slot.String (part_cut o k offsets bytes j l)

pub binary_cut : (o k : ℕ) (offsets : List ℤ) (bytes : List ℕ) (j : ℕ) → j < k → binary_at (take (k + 1) (drop o offsets)) bytes j ≡ binary_at offsets bytes (o + j)
binary_cut o k offsets bytes j l = ap slot.Binary (part_cut o k offsets bytes j l)

-- k parts from part o on
pub count_cut : (o k : ℕ) (offsets : List ℤ) → o + k < length offsets → length (take (k + 1) (drop o offsets)) - 1 ≡ k
count_cut o k offsets l = omega (arith, length_cut o (k + 1) offsets (omega (arith, l)))

pub utf8_fits_cut : {wanted given : DataType} {offsets : List ℤ} {bytes : List ℕ} {v : Option Packed} (o k : ℕ) (u : Option Packed) → Utf8Fits wanted given offsets bytes v → o + k < length offsets → IsCutOf v o k u
    → Utf8Fits wanted given (take (k + 1) (drop o offsets)) bytes u
utf8_fits_cut {wanted} {given} {offsets} {bytes} {v} o k u h l c = record {
  kind = h.kind;
  offsets_fit = offsets_cut o k (length bytes) offsets l h.offsets_fit;
  utf8_fit = texts_cut o k offsets bytes l h.utf8_fit;
  validity_fits = rw (count_cut o k offsets l) (cut_fits v u o k (length offsets - 1) h.validity_fits (omega (arith, l)) c);
}

pub binary_fits_cut : {wanted given : DataType} {offsets : List ℤ} {n : ℕ} {v : Option Packed} (o k : ℕ) (u : Option Packed) → BinaryFits wanted given offsets n v → o + k < length offsets → IsCutOf v o k u
    → BinaryFits wanted given (take (k + 1) (drop o offsets)) n u
binary_fits_cut {wanted} {given} {offsets} {n} {v} o k u h l c = record {
  kind = h.kind;
  offsets_fit = offsets_cut o k n offsets l h.offsets_fit;
  validity_fits = rw (count_cut o k offsets l) (cut_fits v u o k (length offsets - 1) h.validity_fits (omega (arith, l)) c);
}

-- k slots of w bytes each, from slot o on, lie within n bytes
pub bytes_within : (o k w n : ℕ) → o + k ≤ n / w → o * w + k * w ≤ n
bytes_within o k w n l = omega (arith, mul-le (o + k) w (n / w) w l (omega arith), div-mul-le_self n w, add-mul o k w)

-- slot i lies within n bytes
pub slot_within : (i w n : ℕ) → i < n / w → i * w + w ≤ n
slot_within i w n l = omega (arith, row_fits i w (n / w) w l (omega arith), div-mul-le_self n w)

whole_slots_of : (k w : ℕ) → 0 < w → k * w % w ≡ 0
whole_slots_of k w p = let e : k * w + 0 ≡ k * w = omega arith in subst (λ z. z % w ≡ 0) e (mod-mul-add k w 0 p)

-- k slots of w bytes each
pub count_fixed_cut : (o k w : ℕ) (bytes : List ℕ) → 0 < w → o + k ≤ length bytes / w → length (take (k * w) (drop (o * w) bytes)) / w ≡ k
count_fixed_cut o k w bytes p l = rw (length_cut (o * w) (k * w) bytes (bytes_within o k w (length bytes) l)) (mul-div_cancel k p)

pub fixed_cut : (w o k : ℕ) (bytes : List ℕ) (j : ℕ) → j < k → fixed_at w (take (k * w) (drop (o * w) bytes)) j ≡ fixed_at w bytes (o + j)
fixed_cut w o k bytes j l = ap slot.Binary
    (sym (cut_again (o * w) (k * w) (j * w) w bytes (row_fits j w k w l (omega arith))) ∙ ap (λ z. take w (drop z bytes)) (sym (add-mul o j w)))

pub fixed_fits_cut : {data_type : DataType} {v : Option Packed} (o k : ℕ) (bytes : List ℕ) (u : Option Packed) → FixedSizeBinaryFits data_type (length bytes) v → o + k ≤ length bytes / byte_width data_type → IsCutOf v o k u
    → FixedSizeBinaryFits data_type (length (take (k * byte_width data_type) (drop (o * byte_width data_type) bytes))) u
fixed_fits_cut {data_type} {v} o k bytes u h l c =
    let w : ℕ = byte_width data_type in
    let e : length (take (k * w) (drop (o * w) bytes)) ≡ k * w = length_cut (o * w) (k * w) bytes (bytes_within o k w (length bytes) l) in
    record {
      kind = h.kind;
      whole_slots = rw e (whole_slots_of k w h.kind);
      validity_fits = rw (count_fixed_cut o k w bytes h.kind l) (cut_fits v u o k (length bytes / w) h.validity_fits l c);
    }
