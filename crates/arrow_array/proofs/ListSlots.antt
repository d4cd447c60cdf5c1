-- The slots of lists, and of a cut of them.
use Rattle.std.proofs.Common.{◌≡◌, sym, ◌∙◌, ap, refl, arith, ℕ, ◌+◌, ◌-◌, ◌<◌, Bool, true, false, List, [], ◌∷◌, ℤ, IsTrue, Option, length, take, drop, zero-add}
use Rattle.std.specs.Bool.{Decides}
use Rattle.arrow_core.specs.declared.slot.Slot.{Slot}
use Rattle.arrow_core.specs.declared.slot.Slot.TheVariants as slot
use Rattle.arrow_core.specs.declared.types.DataType.{DataType, out-DataType}
use Rattle.arrow_core.specs.declared.types.DataType.TheOpen as open_type
use Rattle.arrow_core.specs.declared.types.DataType.TheViews.{outs-List, outs-LargeList}
use Rattle.arrow_core.specs.declared.types.Field.{Field}
use Rattle.arrow_array.specs.Bits.{Packed}
use Rattle.arrow_array.specs.Offsets.{IsOffsets}
use Rattle.arrow_array.specs.Parts.{IsValidityOf, IsCutOf}
use Rattle.arrow_array.specs.Slots.{slot_at, is_held, valid_at, TellsHeld, slots_of}
use Rattle.arrow_array.specs.Lists.{ListColumn, ListFits, IsListOf, list_at, list_type}
use Rattle.arrow_array.proofs.Cuts.{cut_fits, cut_made_slots, length_cut, offsets_cut, part_cut}
use Rattle.arrow_array.proofs.Windows.{Window, count_slots, read_held, read_valid, validity_says}

-- the slots of what a view gives
pub list_slots_are : {a b : ListColumn} → a ≡ b → a.slots ≡ b.slots
list_slots_are e = ap (λ (c : ListColumn). c.slots) e

pub list_types_are : {a b : ListColumn} → a ≡ b → a.data_type ≡ b.data_type
list_types_are e = ap (λ (c : ListColumn). c.data_type) e

pub list_items_are : {a b : ListColumn} → a ≡ b → a.items ≡ b.items
list_items_are e = ap (λ (c : ListColumn). c.items) e

pub list_dictionaries_are : {a b : ListColumn} → a ≡ b → a.dictionaries ≡ b.dictionaries
list_dictionaries_are e = ap (λ (c : ListColumn). c.dictionaries) e

pub list_offsets_are : {a b : ListColumn} → a ≡ b → a.offsets ≡ b.offsets
list_offsets_are e = ap (λ (c : ListColumn). c.offsets) e

module _ {is_large : Bool} {data_type item : DataType} {offsets : List ℤ} {items : List Slot} {v : Option Packed} {xs : List Slot} (h : ListFits is_large data_type item offsets items v) (is : slots_of (list_at offsets items) v 0 (length offsets - 1) ≡ xs) where
  list_window : Window (list_at offsets items) v 0 (length offsets - 1) (length offsets)
  list_window = record { within = omega arith; validity_fits = h.validity_fits }

  pub count_lists : length offsets - 1 ≡ length xs
  count_lists = count_slots list_window is

  -- a held slot is the list between its offsets
  pub read_list : (i : ℕ) → i < length xs → IsTrue (is_held (slot_at xs i)) → slot_at xs i ≡ list_at offsets items i
  read_list i l d = read_held list_window is i (omega (arith, l, count_lists)) d ∙ ap (list_at offsets items) (zero-add i)

  pub valid_list : (i : ℕ) → i < length xs → valid_at v i ≡ is_held (slot_at xs i)
  valid_list i l = read_valid list_window is i (omega (arith, l, count_lists)) refl

  pub lists_say : TellsHeld v xs
  lists_say = validity_says list_window is (λ i l. refl)

list_of_same : (is_large : Bool) (f g : Field) → list_type is_large f ≡ list_type is_large g → f ≡ g
list_of_same false f g e = let d : open_type.List f ≡ open_type.List g = sym (outs-List f) ∙ ap out-DataType e ∙ outs-List g in cc
list_of_same true f g e = let d : open_type.LargeList f ≡ open_type.LargeList g = sym (outs-LargeList f) ∙ ap out-DataType e ∙ outs-LargeList g in cc

-- whether a type of lists of this field is one of such items
pub list_kind : (is_large : Bool) (t item : DataType) (f g : Field) (b : Bool) → t ≡ list_type is_large f → g ≡ f → Decides b (g.data_type ≡ item) → Decides b (IsListOf is_large t item)
list_kind is_large t item f g b e p d = (λ r. (f, e, ap (λ (z : Field). z.data_type) (sym p) ∙ d.0 r), λ h. d.1 (ap (λ (z : Field). z.data_type) (p ∙ list_of_same is_large f h.0 (sym e ∙ h.1)) ∙ h.2))

-- lists between cut offsets are a cut of the lists
module _ (is_large : Bool) (t item : DataType) (offsets : List ℤ) (items : List Slot) (v : Option Packed) (h : ListFits is_large t item offsets items v) (o k : ℕ) (l : o + k < length offsets) (w : Option Packed) (d : IsCutOf v o k w) where
  pub cut_list_parts : (u : DataType) → u ≡ t → ListFits is_large u item (take (k + 1) (drop o offsets)) items w
  cut_list_parts u e =
      let c : length (take (k + 1) (drop o offsets)) ≡ k + 1 = length_cut o (k + 1) offsets (omega (arith, l)) in
      let c' : length (take (k + 1) (drop o offsets)) - 1 ≡ k = omega (arith, c) in
      record {
        kind = (h.kind.0, e ∙ h.kind.1, h.kind.2);
        offsets_fit = offsets_cut o k (length items) offsets l h.offsets_fit;
        validity_fits = rw c' (cut_fits v w o k (length offsets - 1) h.validity_fits (omega (arith, l)) d);
      }

  pub cut_lists : (xs : List Slot) → slots_of (list_at offsets items) v 0 (length offsets - 1) ≡ xs → slots_of (list_at (take (k + 1) (drop o offsets)) items) w 0 (length (take (k + 1) (drop o offsets)) - 1) ≡ take k (drop o xs)
  cut_lists xs is =
      let c : length (take (k + 1) (drop o offsets)) ≡ k + 1 = length_cut o (k + 1) offsets (omega (arith, l)) in
      let win : Window (list_at offsets items) v 0 (length offsets - 1) (length offsets) = record { within = omega arith; validity_fits = h.validity_fits } in
      cut_made_slots win is (list_at (take (k + 1) (drop o offsets)) items) w o k (length (take (k + 1) (drop o offsets)) - 1) (omega (arith, c)) (omega (arith, l)) d (λ j m. ap slot.List (part_cut o k offsets items j m))

-- parts of an array of lists, as one test finds them
pub lists_fit : {is_large : Bool} {t item : DataType} {offsets : List ℤ} {n : ℕ} (items : List Slot) {v : Option Packed} → IsListOf is_large t item → n ≡ length items → IsOffsets offsets n → IsValidityOf v (length offsets - 1) → ListFits is_large t item offsets items v
lists_fit items k e o f = record { kind = k; offsets_fit = rw (← e) o; validity_fits = f }

-- the whole of a list
pub whole : {X : Type 0} (n : ℕ) (xs : List X) → n ≡ length xs → take n (drop 0 xs) ≡ xs
whole n [] e = rw e refl
whole n (x ∷ xs) e = rw e (ap (λ z. x ∷ z) (whole (length xs) xs refl))
