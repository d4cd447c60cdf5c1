-- Arrays whose parts fit together.
use Rattle.std.proofs.Common.{◌≡◌, inl, inr, ap, ◌∙◌, sym, subst, Bool, false, cond, ℕ, suc, ◌+◌, ◌-◌, ◌<◌, ◌≤◌, List, [], ◌∷◌, map, length, take, drop, slice_index_or, Option, Some, None, ℤ, pos, refl, arith, zero-add}
use Rattle.std.specs.Option.{is_some}
use Rattle.std.specs.List.{range_with_len}
use Rattle.std.proofs.lemmas.List.{length-map}
use Rattle.arrow_core.specs.declared.slot.Slot.{Slot}
use Rattle.arrow_core.specs.declared.slot.Slot.TheVariants as slot
use Rattle.arrow_core.specs.declared.types.DataType.{DataType}
use Rattle.arrow_array.specs.Bits.{Packed}
use Rattle.arrow_array.specs.Arrays.{array_slots}
use Rattle.arrow_array.specs.Lists.{IsListOf, ListFits, list_at}
use Rattle.arrow_array.specs.Offsets.{IsOffsets}
use Rattle.arrow_array.specs.Parts.{IsRefusalOf}
use Rattle.arrow_array.specs.Slots.{slots_of}
use Rattle.arrow_core.specs.declared.error.Error.{Error}
use Rattle.arrow_core.specs.declared.error.Error.TheVariants.{OutOfMemory}
use Rattle.arrow_array.specs.Structs.{IsStructOf, StructFits, first_len, record_at, AreChildren}
use Rattle.arrow_array.specs.declared.array.Array.{Array}
use Rattle.arrow_flat.specs.Builders.{slots_where}
use Rattle.arrow_flat.specs.Nested.{list_len, items_of, list_slot, lists_from, ends_from, offsets_of}
use Rattle.arrow_flat.proofs.Bits.{made_alike}
use Rattle.arrow_flat.proofs.ListOffsets.{are_offsets, length-offsets, slots_from-cut}

-- ---- lists

-- the lists between the offsets, where the child has their items
between_ends : (s : ℕ) (l : Option ℕ) (ls : List (Option ℕ)) (xs : List Slot) → s + list_len l ≤ length xs → cond (is_some l) (list_at (pos s ∷ ends_from s (l ∷ ls)) xs 0) slot.Null ≡ list_slot xs s l
between_ends s None ls xs h = refl
between_ends s (Some n) ls xs h =
    let e : s + n - s ≡ n = omega arith in
    ap slot.List (ap (λ m. take m (drop s xs)) e ∙ sym (slots_from-cut xs s n h))

abbrev shown_list : ℕ → List (Option ℕ) → List Slot → ℕ → Slot
shown_list s ls xs i = cond (slice_index_or (map is_some ls) i false) (list_at (pos s ∷ ends_from s ls) xs i) slot.Null

shown_lists : (s : ℕ) (ls : List (Option ℕ)) (xs : List Slot) → s + items_of ls ≤ length xs → map (shown_list s ls xs) (range_with_len 0 (length ls)) ≡ lists_from s ls xs
shown_lists s [] xs h = refl
shown_lists s (l ∷ ls) xs h =
    let t : map (shown_list s (l ∷ ls) xs) (range_with_len 1 (length ls)) ≡ map (shown_list (s + list_len l) ls xs) (range_with_len 0 (length ls)) =
    made_alike (shown_list s (l ∷ ls) xs) (shown_list (s + list_len l) ls xs) 1 0 (length ls) (λ i k. let e : 1 + i ≡ suc i = omega arith in let d : 0 + i ≡ i = omega arith in let f : suc i + 1 ≡ suc (i + 1) = omega arith in rw (e, d, f) refl) in
    let a : shown_list s (l ∷ ls) xs 0 ≡ list_slot xs s l = between_ends s l ls xs (omega (arith, h)) in
    let r = shown_lists (s + list_len l) ls xs (omega (arith, h)) in
    rw (t, r, a) refl

lists-array : (ls : List (Option ℕ)) (xs : List Slot) (v : Packed) (m : ℕ) → items_of ls ≤ length xs → v.booleans ≡ map is_some ls → m ≡ length ls
    → slots_of (list_at (offsets_of ls) xs) (Some v) 0 m ≡ lists_from 0 ls xs
lists-array ls xs v m h d e = rw (d, e) (made_alike (λ i. cond (slice_index_or (map is_some ls) i false) (list_at (offsets_of ls) xs (0 + i)) slot.Null) (shown_list 0 ls xs) 0 0 (length ls)
    (λ i k. rw (zero-add i) (rw (zero-add i) refl)) ∙ shown_lists 0 ls xs (omega (arith, h)))

module _ (is_large : Bool) (t u item : DataType) (ls : List (Option ℕ)) (os : List ℤ) (xs : List Slot) (v : Packed)
    (te : u ≡ t) (oe : os ≡ offsets_of ls) (ve : v.booleans ≡ map is_some ls) (within : items_of ls ≤ length xs) where
  pub list_parts : IsListOf is_large t item → ListFits is_large u item os xs (Some v)
  list_parts h = record {
    kind = subst (λ z. IsListOf is_large z item) (sym te) h;
    offsets_fit = subst (λ z. IsOffsets z (length xs)) (sym oe) (are_offsets ls (length xs) within);
    validity_fits = omega (arith, ap length ve, length-map ls is_some, length-offsets ls, ap length oe);
  }

  pub list_array_slots : (n : ℕ) → n ≡ length os → slots_of (list_at os xs) (Some v) 0 (n - 1) ≡ lists_from 0 ls xs
  list_array_slots n ne =
      let m : n - 1 ≡ length ls = omega (arith, ne, ap length oe, length-offsets ls) in
      rw oe (lists-array ls xs v (n - 1) within ve m)

-- ---- structs

first_is : (t : DataType) (columns : List Array) (n : ℕ) → 0 < length columns → IsStructOf t columns n → first_len columns ≡ n
first_is t [] n p h = absurd (omega (arith, p))
first_is t (a ∷ columns) n p h = first_child h.0 h.2
  where
    first_child : (fs : _) → AreChildren n fs (a ∷ columns) → length (array_slots a) ≡ n
    first_child [] k = absurd k
    first_child (f ∷ fs) k = k.0.1

module _ (t u : DataType) (columns : List Array) (ts : List Bool) (v : Packed) (te : u ≡ t) (ve : v.booleans ≡ ts) (filled : 0 < length columns) (h : IsStructOf t columns (length ts)) where
  pub struct_parts : StructFits u columns (Some v)
  struct_parts =
      let f : first_len columns ≡ length ts = first_is t columns (length ts) filled h in
      record {
        filled = filled;
        kind = (h.0, te ∙ h.1, subst (λ n. AreChildren n h.0 columns) (sym f) h.2);
        validity_fits = ap length ve ∙ sym f;
      }

  pub struct_array_slots : slots_of (record_at (map array_slots columns)) (Some v) 0 (first_len columns) ≡ slots_where ts (record_at (map array_slots columns))
  struct_array_slots =
      let f : first_len columns ≡ length ts = first_is t columns (length ts) filled h in
      rw (ve, f) refl

-- the only error of parts that fit is out of memory
pub only_memory : (fits : Type 0) (e : Error) → fits → IsRefusalOf fits e → e ≡ OutOfMemory
only_memory fits e h (inl m) = m
only_memory fits e h (inr r) = absurd (r.1 h)
