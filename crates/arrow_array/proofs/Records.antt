-- The slots of structs, their children, and cuts of them.
use Rattle.std.proofs.Common.{◌≡◌, sym, ◌∙◌, ap, refl, arith, ℕ, zero, suc, ◌+◌, ◌<◌, ◌≤◌, Bool, List, [], ◌∷◌, ◌++◌, map, length, take, drop, slice_index_or, IsTrue, Option, zero-add, subst}
use Rattle.std.specs.Bool.{Decides}
use Rattle.arrow_core.specs.declared.slot.Slot.{Slot}
use Rattle.arrow_core.specs.declared.slot.Slot.TheVariants as slot
use Rattle.arrow_core.specs.declared.types.DataType.{DataType, out-DataType}
use Rattle.arrow_core.specs.declared.types.DataType.TheOpen as open_type
use Rattle.arrow_core.specs.declared.types.DataType.TheVariants as types
use Rattle.arrow_core.specs.declared.types.DataType.TheViews.{outs-Struct}
use Rattle.arrow_core.specs.declared.types.Field.{Field}
use Rattle.arrow_array.specs.Bits.{Packed}
use Rattle.arrow_array.specs.declared.array.Array.{Array}
use Rattle.arrow_array.specs.Arrays.{array_type, array_slots}
use Rattle.arrow_array.specs.Parts.{IsCutOf}
use Rattle.arrow_array.specs.Slots.{slot_at, is_held, valid_at, TellsHeld, slots_of}
use Rattle.arrow_array.specs.Structs.{record_at, AreChildren, IsStructOf, first_len, StructParts, HaveSlots, AreCuts}
use Rattle.arrow_array.proofs.Cuts.{at_cut, cut_fits, cut_made_slots, length_cut}
use Rattle.arrow_array.proofs.Windows.{Window, count_slots, read_held, read_valid, validity_says}

module _ {data_type : DataType} {children : List Array} {n : ℕ} {v : Option Packed} {xs : List Slot} (h : StructParts data_type children n v) (is : slots_of (record_at (map array_slots children)) v 0 n ≡ xs) where
  record_window : Window (record_at (map array_slots children)) v 0 n n
  record_window = record { within = omega arith; validity_fits = h.validity_fits }

  pub count_records : n ≡ length xs
  count_records = count_slots record_window is

  -- a held slot is the struct of the children's slots at its index
  pub read_record : (i : ℕ) → i < length xs → IsTrue (is_held (slot_at xs i)) → slot_at xs i ≡ record_at (map array_slots children) i
  read_record i l d = read_held record_window is i (omega (arith, l, count_records)) d ∙ ap (record_at (map array_slots children)) (zero-add i)

  pub valid_record : (i : ℕ) → i < length xs → valid_at v i ≡ is_held (slot_at xs i)
  valid_record i l = read_valid record_window is i (omega (arith, l, count_records)) refl

  pub records_say : TellsHeld v xs
  records_say = validity_says record_window is (λ i l. refl)

-- the first child has as many slots as first_len says
pub first_child : (children : List Array) (a : Array) → 0 < length children → a ≡ slice_index_or children 0 a → length (array_slots a) ≡ first_len children
first_child [] a l e = absurd (omega (arith, l))
first_child (b ∷ children) a l e = ap (λ z. length (array_slots z)) e

pub as_many : (n : ℕ) (fields : List Field) (children : List Array) → AreChildren n fields children → length fields ≡ length children
as_many n [] [] h = refl
as_many n [] (a ∷ children) h = absurd h
as_many n (f ∷ fields) [] h = absurd h
as_many n (f ∷ fields) (a ∷ children) h = omega (arith, as_many n fields children h.1)

pub child_fits : (n : ℕ) (fields : List Field) (children : List Array) (k : ℕ) (f : Field) (a : Array) → k < length fields → f ≡ slice_index_or fields k f → a ≡ slice_index_or children k a → AreChildren n fields children → (f.data_type ≡ array_type a) × (length (array_slots a) ≡ n)
child_fits n [] children k f a l e d h = absurd (omega (arith, l))
child_fits n (g ∷ fields) [] k f a l e d h = absurd h
child_fits n (g ∷ fields) (b ∷ children) zero f a l e d h = rw (e, d) h.0
child_fits n (g ∷ fields) (b ∷ children) (suc k) f a l e d h = child_fits n fields children k f a (omega (arith, l)) e d h.1

pub one_more_child : (n : ℕ) (fields : List Field) (children : List Array) (k : ℕ) (f : Field) (a : Array) → k < length fields → k < length children → f ≡ slice_index_or fields k f → a ≡ slice_index_or children k a → f.data_type ≡ array_type a → length (array_slots a) ≡ n
    → AreChildren n (take k fields) (take k children) → AreChildren n (take (suc k) fields) (take (suc k) children)
one_more_child n [] children k f a l m e d t c h = absurd (omega (arith, l))
one_more_child n (g ∷ fields) [] k f a l m e d t c h = absurd (omega (arith, m))
one_more_child n (g ∷ fields) (b ∷ children) zero f a l m e d t c h = ((rw (← e, ← d) t, rw (← d) c), tt)
one_more_child n (g ∷ fields) (b ∷ children) (suc k) f a l m e d t c h = (h.0, one_more_child n fields children k f a (omega (arith, l)) (omega (arith, m)) e d t c h.1)

struct_of_same : (f g : List Field) → types.Struct f ≡ types.Struct g → f ≡ g
struct_of_same f g e = let d : open_type.Struct f ≡ open_type.Struct g = sym (outs-Struct f) ∙ ap out-DataType e ∙ outs-Struct g in cc

-- whether a type of structs of these fields is one of the children
pub struct_kind : (t : DataType) (children : List Array) (n : ℕ) (f g : List Field) (b : Bool) → t ≡ types.Struct f → g ≡ f → Decides b (AreChildren n g children) → Decides b (IsStructOf t children n)
struct_kind t children n f g b e p d = (λ r. (f, e, subst (λ z. AreChildren n z children) p (d.0 r)), λ h. d.1 (subst (λ z. AreChildren n z children) (sym (p ∙ struct_of_same f h.0 (sym e ∙ h.1))) h.2))

capacity_of_children : (m n : ℕ) (fields : List Field) (children : List Array) → AreChildren n fields children → m ≤ n → HaveSlots m children
capacity_of_children m n [] [] h l i d p = absurd (omega (arith, p))
capacity_of_children m n [] (a ∷ children) h l i d p = absurd h
capacity_of_children m n (f ∷ fields) [] h l i d p = absurd h
capacity_of_children m n (f ∷ fields) (a ∷ children) h l zero d p = omega (arith, h.0.1, l)
capacity_of_children m n (f ∷ fields) (a ∷ children) h l (suc i) d p = capacity_of_children m n fields children h.1 l i d (omega (arith, p))

-- the children of n structs have m slots, if m is at most n
pub capacity : (t : DataType) (m n : ℕ) (children : List Array) → IsStructOf t children n → m ≤ n → HaveSlots m children
capacity t m n children h l = capacity_of_children m n h.0 children h.2 l

cut_children : (n o k : ℕ) (fields : List Field) (olds news : List Array) → o + k ≤ n → AreChildren n fields olds → AreCuts o k olds news → AreChildren k fields news
cut_children n o k [] [] [] l h c = tt
cut_children n o k [] [] (b ∷ news) l h c = absurd c
cut_children n o k [] (a ∷ olds) news l h c = absurd h
cut_children n o k (f ∷ fields) [] news l h c = absurd h
cut_children n o k (f ∷ fields) (a ∷ olds) [] l h c = absurd c
cut_children n o k (f ∷ fields) (a ∷ olds) (b ∷ news) l h c =
    ((h.0.0 ∙ sym c.0.0, rw c.0.1 (length_cut o k (array_slots a) (omega (arith, h.0.1, l)))), cut_children n o k fields olds news l h.1 c.1)

as_many_cuts : (o k : ℕ) (olds news : List Array) → AreCuts o k olds news → length olds ≡ length news
as_many_cuts o k [] [] c = refl
as_many_cuts o k [] (b ∷ news) c = absurd c
as_many_cuts o k (a ∷ olds) [] c = absurd c
as_many_cuts o k (a ∷ olds) (b ∷ news) c = omega (arith, as_many_cuts o k olds news c.1)

cut_fields : (o k j : ℕ) (olds news : List Array) → j < k → AreCuts o k olds news → map (λ slots. slot_at slots j) (map array_slots news) ≡ map (λ slots. slot_at slots (o + j)) (map array_slots olds)
cut_fields o k j [] [] l c = refl
cut_fields o k j [] (b ∷ news) l c = absurd c
cut_fields o k j (a ∷ olds) [] l c = absurd c
cut_fields o k j (a ∷ olds) (b ∷ news) l c =
    let e : slot_at (array_slots b) j ≡ slot_at (array_slots a) (o + j) = rw c.0.1 (at_cut o k (array_slots a) j slot.Null l) in
    rw (e, cut_fields o k j olds news l c.1) refl

-- structs of cut children are a cut of the structs
pub cut_struct : (t u : DataType) (n o k : ℕ) (olds news : List Array) (v w : Option Packed) → StructParts t olds n v → u ≡ t → o + k ≤ n → AreCuts o k olds news → IsCutOf v o k w → StructParts u news k w
cut_struct t u n o k olds news v w h e l c d = record {
  filled = omega (arith, h.filled, as_many_cuts o k olds news c);
  kind = (h.kind.0, e ∙ h.kind.1, cut_children n o k h.kind.0 olds news l h.kind.2 c);
  validity_fits = cut_fits v w o k n h.validity_fits l d;
}

pub cut_records : (t : DataType) (n o k : ℕ) (olds news : List Array) (v w : Option Packed) (xs : List Slot) → StructParts t olds n v → slots_of (record_at (map array_slots olds)) v 0 n ≡ xs → o + k ≤ n → AreCuts o k olds news → IsCutOf v o k w
    → slots_of (record_at (map array_slots news)) w 0 k ≡ take k (drop o xs)
cut_records t n o k olds news v w xs h is l c d =
    let win : Window (record_at (map array_slots olds)) v 0 n n = record { within = omega arith; validity_fits = h.validity_fits } in
    cut_made_slots win is (record_at (map array_slots news)) w o k k refl l d (λ j m. ap slot.Struct (cut_fields o k j olds news m c))

-- one more array is cut
pub one_more_cut : (o n : ℕ) (xs : List Array) (i : ℕ) (ys : List Array) (x y : Array) → i < length xs → x ≡ slice_index_or xs i x → array_type y ≡ array_type x → array_slots y ≡ take n (drop o (array_slots x))
    → AreCuts o n (take i xs) ys → AreCuts o n (take (suc i) xs) (ys ++ y ∷ [])
one_more_cut o n [] i ys x y l e t s h = absurd (omega (arith, l))
one_more_cut o n (a ∷ xs) zero [] x y l e t s h = ((t ∙ ap array_type e, s ∙ ap (λ z. take n (drop o (array_slots z))) e), tt)
one_more_cut o n (a ∷ xs) zero (b ∷ ys) x y l e t s h = absurd h
one_more_cut o n (a ∷ xs) (suc i) [] x y l e t s h = absurd h
one_more_cut o n (a ∷ xs) (suc i) (b ∷ ys) x y l e t s h = (h.0, one_more_cut o n xs i ys x y (omega (arith, l)) e t s h.1)
