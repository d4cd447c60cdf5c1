-- The slots of fixed-size lists, and of a cut of them.
use Rattle.std.proofs.Common.{◌≡◌, sym, ◌∙◌, ap, refl, arith, ℕ, ◌+◌, ◌-◌, ◌*◌, ◌/◌, ◌%◌, ◌<◌, ◌≤◌, Bool, List, length, take, drop, IsTrue, Option, zero-add, subst}
use Rattle.std.proofs.lemmas.Nat.{mod-mul-add, row_fits}
use Rattle.std.proofs.Math.Nat.{mul-div_cancel, add-mul, mod-eq-sub-div-mul, div-mul-le_self}
use Rattle.std.specs.Bool.{Decides}
use Rattle.arrow_core.specs.declared.slot.Slot.{Slot}
use Rattle.arrow_core.specs.declared.slot.Slot.TheVariants as slot
use Rattle.arrow_core.specs.declared.types.DataType.{DataType, out-DataType}
use Rattle.arrow_core.specs.declared.types.DataType.TheOpen as open_type
use Rattle.arrow_core.specs.declared.types.DataType.TheVariants as types
use Rattle.arrow_core.specs.declared.types.DataType.TheViews.{outs-FixedSizeList}
use Rattle.arrow_core.specs.declared.types.Field.{Field}
use Rattle.arrow_array.specs.Bits.{Packed}
use Rattle.arrow_array.specs.FixedLists.{fixed_list_at, list_size, IsFixedListOf, FixedListParts}
use Rattle.arrow_array.specs.Parts.{IsCutOf}
use Rattle.arrow_array.specs.Slots.{slot_at, is_held, valid_at, TellsHeld, slots_of}
use Rattle.arrow_array.proofs.Cuts.{bytes_within, cut_again, cut_fits, cut_made_slots, length_cut}
use Rattle.arrow_array.proofs.Windows.{Window, count_slots, read_held, read_valid, validity_says}

module _ {t item : DataType} (items : List Slot) {v : Option Packed} {size count : ℕ} {xs : List Slot} (h : FixedListParts t item (length items) v size count) (is : slots_of (fixed_list_at (list_size t) items) v 0 (length items / list_size t) ≡ xs) where
  fixed_window : Window (fixed_list_at (list_size t) items) v 0 (length items / list_size t) (length items / list_size t)
  fixed_window = record { within = omega arith; validity_fits = h.fits.validity_fits }

  pub count_fixed : count ≡ length xs
  count_fixed = h.count_is ∙ count_slots fixed_window is

  -- a held slot is the list of the items at its index
  pub read_fixed : (i : ℕ) → i < length xs → IsTrue (is_held (slot_at xs i)) → slot_at xs i ≡ fixed_list_at (list_size t) items i
  read_fixed i l d = read_held fixed_window is i (omega (arith, l, count_slots fixed_window is)) d ∙ ap (fixed_list_at (list_size t) items) (zero-add i)

  -- the child has the items of all lists, and no more
  pub child_count : length items ≡ length xs * list_size t
  child_count =
      let n = length items in
      let size = list_size t in
      let all : n ≡ n / size * size = omega (arith, h.fits.whole_lists, mod-eq-sub-div-mul n size, div-mul-le_self n size) in
      subst (λ k. n ≡ k * size) (count_slots fixed_window is) all

  pub valid_fixed : (i : ℕ) → i < length xs → valid_at v i ≡ is_held (slot_at xs i)
  valid_fixed i l = read_valid fixed_window is i (omega (arith, l, count_slots fixed_window is)) refl

  pub fixed_say : TellsHeld v xs
  fixed_say = validity_says fixed_window is (λ i l. refl)

times_mod : (k w : ℕ) → 0 < w → k * w % w ≡ 0
times_mod k w p = let e : k * w + 0 ≡ k * w = omega arith in subst (λ z. z % w ≡ 0) e (mod-mul-add k w 0 p)

-- so many lists from list o on
module _ (t item : DataType) (items : List Slot) (v : Option Packed) (size count : ℕ) (h : FixedListParts t item (length items) v size count) (o k : ℕ) (l : o + k ≤ count) (u : Option Packed) (c : IsCutOf v o k u) (cut : List Slot) (cut_is : cut ≡ take (k * size) (drop (o * size) items)) where
  cut_within : o * size + k * size ≤ length items
  cut_within = rw h.size_is (bytes_within o k (list_size t) (length items) (omega (arith, l, h.count_is)))

  cut_length : length cut ≡ k * size
  cut_length = rw cut_is (length_cut (o * size) (k * size) items cut_within)

  cut_count : length cut / size ≡ k
  cut_count = rw cut_length (mul-div_cancel k (let p : size ≡ list_size t = h.size_is in omega (arith, p, h.fits.filled)))

  pub cut_fixed_parts : (s item' : DataType) → s ≡ t → item' ≡ item → FixedListParts s item' (length cut) u size k
  cut_fixed_parts s item' e d = rw (e, d) record {
    fits = record {
      filled = h.fits.filled;
      kind = h.fits.kind;
      whole_lists = rw (← h.size_is, cut_length) (times_mod k size (omega (arith, h.size_is, h.fits.filled)));
      validity_fits = rw (← h.size_is, cut_count) (cut_fits v u o k (length items / list_size t) h.fits.validity_fits (omega (arith, l, h.count_is)) c);
    };
    size_is = h.size_is;
    count_is = rw (← h.size_is) (sym cut_count);
    bounded = omega (arith, cut_length, cut_within, h.bounded);
  }

  fixed_list_cut : (j : ℕ) → j < k → fixed_list_at size cut j ≡ fixed_list_at size items (o + j)
  fixed_list_cut j m = rw cut_is (ap slot.List
      (sym (cut_again (o * size) (k * size) (j * size) size items (row_fits j size k size m (omega arith))) ∙ ap (λ z. take size (drop z items)) (sym (add-mul o j size))))

  pub cut_fixed : (s : DataType) (xs : List Slot) → s ≡ t → slots_of (fixed_list_at (list_size t) items) v 0 (length items / list_size t) ≡ xs → slots_of (fixed_list_at (list_size s) cut) u 0 (length cut / list_size s) ≡ take k (drop o xs)
  cut_fixed s xs e is =
      let win : Window (fixed_list_at (list_size t) items) v 0 (length items / list_size t) (length items / list_size t) = record { within = omega arith; validity_fits = h.fits.validity_fits } in
      let win' : Window (fixed_list_at size items) v 0 (length items / list_size t) (length items / list_size t) = record { within = win.within; validity_fits = win.validity_fits } in
      let is' : slots_of (fixed_list_at size items) v 0 (length items / list_size t) ≡ xs = rw h.size_is is in
      rw (e, ← h.size_is) (cut_made_slots win' is' (fixed_list_at size cut) u o k (length cut / size) cut_count (omega (arith, l, h.count_is)) c fixed_list_cut)

fixed_of_same : (f g : Field) (m n : ℕ) → types.FixedSizeList f m ≡ types.FixedSizeList g n → f ≡ g
fixed_of_same f g m n e = let d : open_type.FixedSizeList f m ≡ open_type.FixedSizeList g n = sym (outs-FixedSizeList f m) ∙ ap out-DataType e ∙ outs-FixedSizeList g n in cc

-- whether a type of lists of this field is one of such items
pub fixed_kind : (t item : DataType) (f g : Field) (n : ℕ) (b : Bool) → t ≡ types.FixedSizeList f n → g ≡ f → Decides b (g.data_type ≡ item) → Decides b (IsFixedListOf t item)
fixed_kind t item f g n b e p d = (
  λ r. (f, e ∙ ap (types.FixedSizeList f) (sym (ap list_size e)), ap (λ (z : Field). z.data_type) (sym p) ∙ d.0 r),
  λ h. d.1 (ap (λ (z : Field). z.data_type) (p ∙ fixed_of_same f h.0 n (list_size t) (sym e ∙ h.1)) ∙ h.2),
)

-- the items from index i times the length on
pub fixed_part : (size i : ℕ) (items : List Slot) → fixed_list_at size items i ≡ slot.List (take (i * size + size - i * size) (drop (i * size) items))
fixed_part size i items = let e : i * size + size - i * size ≡ size = omega arith in rw e refl
