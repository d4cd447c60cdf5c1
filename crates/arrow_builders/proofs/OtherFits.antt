-- When fixed-size lists, and structs, make arrays.
use Rattle.std.proofs.Common.{◌≡◌, ap, ◌∙◌, sym, ℕ, ◌+◌, ◌*◌, ◌/◌, ◌%◌, ◌<◌, List, [], ◌∷◌, map, length, Some, refl, arith, subst, All}
use Rattle.std.proofs.Math.Nat.{mul-mod_left, mul-div_cancel, div-add-mod, mul_comm}
use Rattle.std.proofs.lemmas.List.{length-map}
use Rattle.std.proofs.lemmas.List.Elements.{All-nil, All-cons, All-head, All-tail}
use Rattle.arrow_core.specs.declared.slot.Slot.{Slot}
use Rattle.arrow_core.specs.declared.types.DataType.{DataType}
use Rattle.arrow_core.specs.declared.types.Field.{Field}
use Rattle.arrow_array.specs.Bits.{Packed}
use Rattle.arrow_array.specs.declared.array.Array.{Array}
use Rattle.arrow_array.specs.Arrays.{array_type, array_slots}
use Rattle.arrow_array.specs.FixedLists.{FixedListFits, list_size}
use Rattle.arrow_array.specs.Structs.{AreChildren, StructFits, first_len}
use Rattle.arrow_builders.specs.Fits.{FixedListsFit, RecordsFit}

-- ---- fixed-size lists

pub fixed_parts : (t item : DataType) (count n : ℕ) (v : Packed) (P : Type 0) → FixedListsFit t item count n P → length v.booleans ≡ count → FixedListFits t item n (Some v)
fixed_parts t item count n v P h l = record {
  filled = h.filled;
  kind = h.kind;
  whole_lists = rw h.whole (mul-mod_left count (list_size t));
  validity_fits = l ∙ sym (ap (λ m. m / list_size t) h.whole ∙ mul-div_cancel count h.filled);
}

pub fixed_fit : (t item : DataType) (count n : ℕ) (v : Packed) (P : Type 0) → P → FixedListFits t item n (Some v) → length v.booleans ≡ count → FixedListsFit t item count n P
fixed_fit t item count n v P p h l =
    let size : ℕ = list_size t in
    let d : n / size ≡ count = sym h.validity_fits ∙ l in
    let e : size * (n / size) + n % size ≡ n = div-add-mod n size in
    let f : size * count + 0 ≡ n = subst (λ r. size * count + r ≡ n) h.whole_lists (subst (λ q. size * q + n % size ≡ n) d e) in
    let g : size * count ≡ count * size = mul_comm size count in
    record { filled = h.filled; kind = h.kind; whole = omega (arith, f, g); below = p }

-- ---- structs

children_are : (n : ℕ) (fields : List Field) (children : List Array) → map (λ f. f.data_type) fields ≡ map array_type children → All (λ slots. length slots ≡ n) (map array_slots children) → AreChildren n fields children
children_are n [] [] e l = tt
children_are n [] (a ∷ children) e l = cc
children_are n (f ∷ fields) [] e l = cc
children_are n (f ∷ fields) (a ∷ children) e l =
    let t : f.data_type ≡ array_type a = cc in
    let r : map (λ f. f.data_type) fields ≡ map array_type children = cc in
    let P = λ (slots : List Slot). length slots ≡ n in
    ((t, All-head P (array_slots a) (map array_slots children) l), children_are n fields children r (All-tail P (array_slots a) (map array_slots children) l))

types_are : (n : ℕ) (fields : List Field) (children : List Array) → AreChildren n fields children → map (λ f. f.data_type) fields ≡ map array_type children
types_are n [] [] h = refl
types_are n [] (a ∷ children) h = absurd h
types_are n (f ∷ fields) [] h = absurd h
types_are n (f ∷ fields) (a ∷ children) h = let t = h.0.0 in let r = types_are n fields children h.1 in cc

lengths_are : (n : ℕ) (fields : List Field) (children : List Array) → AreChildren n fields children → All (λ slots. length slots ≡ n) (map array_slots children)
lengths_are n [] [] h = All-nil (λ (slots : List Slot). length slots ≡ n)
lengths_are n [] (a ∷ children) h = absurd h
lengths_are n (f ∷ fields) [] h = absurd h
lengths_are n (f ∷ fields) (a ∷ children) h = All-cons (λ (slots : List Slot). length slots ≡ n) (array_slots a) (map array_slots children) h.0.1 (lengths_are n fields children h.1)

first_is : (n : ℕ) (children : List Array) → 0 < length children → All (λ slots. length slots ≡ n) (map array_slots children) → first_len children ≡ n
first_is n [] p l = absurd (omega (arith, p))
first_is n (a ∷ children) p l = All-head (λ (slots : List Slot). length slots ≡ n) (array_slots a) (map array_slots children) l

-- parts of arrays of these types and slots
module _ (t u : DataType) (ts : List DataType) (ss : List (List Slot)) (count : ℕ) (v : Packed) (te : u ≡ t) (l : length v.booleans ≡ count) (children : List Array) (e : map array_type children ≡ ts) (d : map array_slots children ≡ ss) where
  pub record_parts : (P : Type 0) → RecordsFit t ts count ss P → StructFits u children (Some v)
  record_parts P h =
      let p : 0 < length children = omega (arith, h.filled, ap length e, length-map children array_type) in
      let a : All (λ slots. length slots ≡ count) (map array_slots children) = subst (All (λ slots. length slots ≡ count)) (sym d) h.lengths in
      let f : first_len children ≡ count = first_is count children p a in
      record {
        filled = p;
        kind = (h.kind.0, te ∙ h.kind.1, subst (λ n. AreChildren n h.kind.0 children) (sym f) (children_are count h.kind.0 children (h.kind.2 ∙ sym e) a));
        validity_fits = l ∙ sym f;
      }

  pub records_fit : (P : Type 0) → P → StructFits u children (Some v) → RecordsFit t ts count ss P
  records_fit P q h =
      let f : first_len children ≡ count = sym h.validity_fits ∙ l in
      let k : AreChildren count h.kind.0 children = subst (λ n. AreChildren n h.kind.0 children) f h.kind.2 in
      record {
        filled = omega (arith, h.filled, ap length e, length-map children array_type);
        kind = (h.kind.0, sym te ∙ h.kind.1, types_are count h.kind.0 children k ∙ e);
        lengths = subst (All (λ slots. length slots ≡ count)) d (lengths_are count h.kind.0 children k);
        below = q;
      }
