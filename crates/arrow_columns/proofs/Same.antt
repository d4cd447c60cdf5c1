-- Slots, lists and structs that are the same.
use mir.Syntax.{w32, w64, w128}
use mir.Val.{SFits, of_z, to_z}
use Rattle.std.proofs.lemmas.Int.{ints}
use Rattle.std.proofs.Common.{ℤ, ◌≡◌, refl, sym, ap, ◌∙◌, arith, ℕ, zero, suc, ◌+◌, ◌-◌, ◌<◌, ◌≤◌, Bool, false, List, [], ◌∷◌, map, length, take, drop, slice_index_or, length-take, length-drop}
use Rattle.arrow_core.specs.declared.months_days_ns.MonthsDaysNs.{MonthsDaysNs}
use Rattle.arrow_core.specs.declared.slot.Slot.{Slot, out-Slot, Null, Boolean as BooleanSlot, Integer as IntegerSlot, String as StringSlot, Binary as BinarySlot, List' as ListSlot', Struct' as StructSlot'}
use Rattle.arrow_core.specs.declared.slot.Slot.TheOpen as open_slot
use Rattle.arrow_core.specs.declared.slot.Slot.TheVariants as slot
use Rattle.arrow_core.specs.declared.slot.Slot.TheViews.{outs-List, outs-Struct}
use Rattle.arrow_core.specs.declared.types.DataType.{DataType}
use Rattle.arrow_array.specs.declared.array.Array.{Array}
use Rattle.arrow_array.specs.Arrays.{array_type, array_slots}
use Rattle.arrow_array.specs.Slots.{slot_at, is_held}
use Rattle.arrow_array.specs.Structs.{record_at}
use Rattle.arrow_columns.specs.Cells.{interval_slot}

-- a slot that isn't held is null
pub not_held : (x : Slot) → false ≡ is_held x → slot.Null ≡ x
not_held Null e = refl
not_held (BooleanSlot b) e = cc
not_held (IntegerSlot n) e = cc
not_held (StringSlot string) e = cc
not_held (BinarySlot bytes) e = cc
not_held (ListSlot' a b) e = cc
not_held (StructSlot' a b) e = cc

pub list_same : (xs ys : List Slot) → slot.List xs ≡ slot.List ys → xs ≡ ys
list_same xs ys e = let d : open_slot.List xs ≡ open_slot.List ys = sym (outs-List xs) ∙ ap out-Slot e ∙ outs-List ys in cc

struct_same : (xs ys : List Slot) → slot.Struct xs ≡ slot.Struct ys → xs ≡ ys
struct_same xs ys e = let d : open_slot.Struct xs ≡ open_slot.Struct ys = sym (outs-Struct xs) ∙ ap out-Slot e ∙ outs-Struct ys in cc

-- lists that are the same up to i, and at i
pub same_more : {X : Type 0} (d : X) (xs ys : List X) (i : ℕ) → i < length xs → i < length ys → take i xs ≡ take i ys → slice_index_or xs i d ≡ slice_index_or ys i d → take (suc i) xs ≡ take (suc i) ys
same_more d [] ys i l m t e = absurd (omega (arith, l))
same_more d (x ∷ xs) [] i l m t e = absurd (omega (arith, m))
same_more d (x ∷ xs) (y ∷ ys) zero l m t e = ap (λ z. z ∷ []) e
same_more d (x ∷ xs) (y ∷ ys) (suc i) l m t e =
    let p : x ≡ y = cc in
    let q : take i xs ≡ take i ys = cc in
    let r : take (suc i) xs ≡ take (suc i) ys = same_more d xs ys i (omega (arith, l)) (omega (arith, m)) q e in
    rw (p, r) refl

pub part_length : {X : Type 0} (a b : ℕ) (xs : List X) → a ≤ b → b ≤ length xs → length (take (b - a) (drop a xs)) ≡ b - a
part_length a b xs l h = grind (arith, length-take, length-drop, l, h)

abbrev fields_at : List Array → ℕ → List Slot
fields_at children i = map (λ slots. slot_at slots i) (map array_slots children)

fields_length : (children : List Array) (i : ℕ) → length (fields_at children i) ≡ length children
fields_length [] i = refl
fields_length (a ∷ children) i = omega (arith, fields_length children i)

-- field k is the slot of child k
field_at : (children : List Array) (i k : ℕ) (a : Array) → k < length children → a ≡ slice_index_or children k a → slot_at (fields_at children i) k ≡ slot_at (array_slots a) i
field_at [] i k a l e = absurd (omega (arith, l))
field_at (b ∷ children) i zero a l e = ap (λ z. slot_at (array_slots z) i) (sym e)
field_at (b ∷ children) i (suc k) a l e = field_at children i k a (omega (arith, l)) e

pub struct_lengths : (xs ys : List Array) (i j : ℕ) → record_at (map array_slots xs) i ≡ record_at (map array_slots ys) j → length xs ≡ length ys
struct_lengths xs ys i j e = sym (fields_length xs i) ∙ ap length (struct_same _ _ e) ∙ fields_length ys j

pub same_field : (xs ys : List Array) (i j k : ℕ) (a b : Array) → k < length xs → k < length ys → a ≡ slice_index_or xs k a → b ≡ slice_index_or ys k b → record_at (map array_slots xs) i ≡ record_at (map array_slots ys) j
    → slot_at (array_slots a) i ≡ slot_at (array_slots b) j
same_field xs ys i j k a b l m p q e = sym (field_at xs i k a l p) ∙ ap (λ z. slot_at z k) (struct_same _ _ e) ∙ field_at ys j k b m q

pub one_more_field : (xs ys : List Array) (i j k : ℕ) (a b : Array) → k < length xs → k < length ys → a ≡ slice_index_or xs k a → b ≡ slice_index_or ys k b → slot_at (array_slots a) i ≡ slot_at (array_slots b) j
    → take k (fields_at xs i) ≡ take k (fields_at ys j) → take (suc k) (fields_at xs i) ≡ take (suc k) (fields_at ys j)
one_more_field xs ys i j k a b l m p q e t =
    same_more slot.Null (fields_at xs i) (fields_at ys j) k (omega (arith, l, fields_length xs i)) (omega (arith, m, fields_length ys j)) t (field_at xs i k a l p ∙ e ∙ sym (field_at ys j k b m q))

-- how many fields a struct of these slots has
pub struct_length : (children : List Array) (i : ℕ) (xs : List Slot) → record_at (map array_slots children) i ≡ slot.Struct xs → length children ≡ length xs
struct_length children i xs e = sym (fields_length children i) ∙ ap length (struct_same _ _ e)

-- field k of a struct of these slots
pub struct_field : (children : List Array) (i k : ℕ) (xs : List Slot) (a : Array) → k < length children → a ≡ slice_index_or children k a → record_at (map array_slots children) i ≡ slot.Struct xs → slot_at (array_slots a) i ≡ slot_at xs k
struct_field children i k xs a l d e = sym (field_at children i k a l d) ∙ ap (λ z. slot_at z k) (struct_same _ _ e)

-- a struct of three slots
pub struct_of_three : (children : List Array) (i : ℕ) (a b c : Array) (x y z : Slot) → length children ≡ 3 → a ≡ slice_index_or children 0 a → b ≡ slice_index_or children 1 b → c ≡ slice_index_or children 2 c
    → slot_at (array_slots a) i ≡ x → slot_at (array_slots b) i ≡ y → slot_at (array_slots c) i ≡ z → record_at (map array_slots children) i ≡ slot.Struct (x ∷ y ∷ z ∷ [])
struct_of_three [] i a b c x y z l d e f p q r = absurd (omega (arith, l))
struct_of_three (u ∷ []) i a b c x y z l d e f p q r = absurd (omega (arith, l))
struct_of_three (u ∷ v ∷ []) i a b c x y z l d e f p q r = absurd (omega (arith, l))
struct_of_three (u ∷ v ∷ w ∷ t ∷ more) i a b c x y z l d e f p q r = absurd (omega (arith, l))
struct_of_three (u ∷ v ∷ w ∷ []) i a b c x y z l d e f p q r =
    let j : slot_at (array_slots u) i ≡ x = ap (λ s. slot_at (array_slots s) i) (sym d) ∙ p in
    let k : slot_at (array_slots v) i ≡ y = ap (λ s. slot_at (array_slots s) i) (sym e) ∙ q in
    let m : slot_at (array_slots w) i ≡ z = ap (λ s. slot_at (array_slots s) i) (sym f) ∙ r in
    rw (j, k, m) refl

-- intervals of the same slot are the same
pub interval_same : (x y : MonthsDaysNs) → interval_slot x ≡ interval_slot y → x ≡ y
interval_same x y e =
    let d : slot.Integer x.months ∷ slot.Integer x.days ∷ slot.Integer x.ns ∷ [] ≡ slot.Integer y.months ∷ slot.Integer y.days ∷ slot.Integer y.ns ∷ [] = struct_same _ _ e in
    let a : x.months ≡ y.months = cc in
    let b : x.days ≡ y.days = cc in
    let c : x.ns ≡ y.ns = cc in
    λ i. record { months = a i; days = b i; ns = c i }

-- a number of 32 bits that is widened, as a call is given it
pub widened_32 : (z : ℤ) → SFits w32 z → to_z w128 (of_z w128 (to_z w32 (of_z w32 z))) ≡ z
widened_32 z fits = omega (arith, ints)

-- a number of 64 bits that is widened
pub widened_64 : (z : ℤ) → SFits w64 z → to_z w128 (of_z w128 (to_z w64 (of_z w64 z))) ≡ z
widened_64 z fits = omega (arith, ints)
