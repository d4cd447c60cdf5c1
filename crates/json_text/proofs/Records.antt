-- Structs of the slots of several children at one index.
use Rattle.std.proofs.Common.{◌≡◌, ℕ, zero, suc, ◌+◌, ◌<◌, ◌≤◌, Bool, true, false, ◌&&◌, IsTrue, take, add-one, List, [], ◌∷◌, length, map, get_or, pos, refl, sym, ap, ◌∙◌, arith, subst}
use Rattle.arrow_core.specs.declared.slot.Slot.{Slot}
use Rattle.arrow_core.specs.declared.slot.Slot.TheVariants as slot
use Rattle.arrow_array.specs.Dictionaries.{looked_up}
use Rattle.arrow_core.specs.declared.types.Field.{Field}
use Rattle.arrow_array.specs.declared.array.Array.{Array}
use Rattle.arrow_array.specs.Arrays.{array_type, array_slots}
use Rattle.arrow_array.specs.Slots.{slot_at, is_held}
use Rattle.arrow_array.specs.Depths.{children_depth}
use Rattle.arrow_array.specs.Structs.{AreChildren, IsStructOf}
use Rattle.arrow_core.specs.declared.types.DataType.{DataType, out-DataType, size-DataType}
use Rattle.arrow_core.specs.declared.types.DataType.TheOpen as open_type
use Rattle.arrow_core.specs.declared.types.DataType.TheVariants as types
use Rattle.arrow_core.specs.declared.types.DataType.TheViews.{outs-Struct}
use Rattle.json_text.specs.JsonText.{text, field_members, member}
use Rattle.json_text.specs.Refusals.{in_range, all_in_range}
use Rattle.std.proofs.Math.Seq.{take-length}

abbrev pub fields_at : List Array → ℕ → List Slot
fields_at children i = map (λ slots. slot_at slots i) (map array_slots children)

pub same_length : (n : ℕ) (fs : List Field) (cs : List Array) → AreChildren n fs cs → length fs ≡ length cs
same_length n [] [] h = refl
same_length n [] (c ∷ cs) h = absurd h
same_length n (f ∷ fs) [] h = absurd h
same_length n (f ∷ fs) (c ∷ cs) h = ap suc (same_length n fs cs h.1)

pub child_at : (n : ℕ) (fs : List Field) (cs : List Array) (k : ℕ) (f : Field) (c : Array) → AreChildren n fs cs → k < length cs → f ≡ get_or fs k f → c ≡ get_or cs k c
    → (f.data_type ≡ array_type c) × (length (array_slots c) ≡ n)
child_at n [] [] k f c h l d e = absurd (omega (arith, l))
child_at n [] (b ∷ cs) k f c h l d e = absurd h
child_at n (g ∷ fs) [] k f c h l d e = absurd h
child_at n (g ∷ fs) (b ∷ cs) zero f c h l d e = (ap (λ (z : Field). z.data_type) d ∙ h.0.0 ∙ ap array_type (sym e), ap (λ z. length (array_slots z)) e ∙ h.0.1)
child_at n (g ∷ fs) (b ∷ cs) (suc k) f c h l d e = child_at n fs cs k f c h.1 (omega (arith, l)) d e

pub members_length : (n : ℕ) (fs : List Field) (cs : List Array) (i : ℕ) → AreChildren n fs cs → length (field_members fs (fields_at cs i)) ≡ length cs
members_length n [] [] i h = refl
members_length n [] (c ∷ cs) i h = absurd h
members_length n (f ∷ fs) [] i h = absurd h
members_length n (f ∷ fs) (c ∷ cs) i h = ap suc (members_length n fs cs i h.1)

pub member_at : (n : ℕ) (fs : List Field) (cs : List Array) (i k : ℕ) (f : Field) (c : Array) → AreChildren n fs cs → k < length cs → f ≡ get_or fs k f → c ≡ get_or cs k c
    → get_or (field_members fs (fields_at cs i)) k [] ≡ member f.name (text (array_type c) (slot_at (array_slots c) i))
member_at n [] [] i k f c h l d e = absurd (omega (arith, l))
member_at n [] (b ∷ cs) i k f c h l d e = absurd h
member_at n (g ∷ fs) [] i k f c h l d e = absurd h
member_at n (g ∷ fs) (b ∷ cs) i zero f c h l d e =
    ap (λ (z : Field). member z.name (text g.data_type (slot_at (array_slots b) i))) (sym d)
    ∙ ap (λ t. member f.name (text t (slot_at (array_slots b) i))) h.0.0
    ∙ ap (λ z. member f.name (text (array_type z) (slot_at (array_slots z) i))) (sym e)
member_at n (g ∷ fs) (b ∷ cs) i (suc k) f c h l d e = member_at n fs cs i k f c h.1 (omega (arith, l)) d e

map_slot : (f : Slot → Slot) (xs : List Slot) (i : ℕ) → i < length (map f xs) → slot_at (map f xs) i ≡ f (slot_at xs i)
map_slot f [] i h = absurd (omega (arith, h))
map_slot f (x ∷ xs) zero h = refl
map_slot f (x ∷ xs) (suc i) h = map_slot f xs i (omega (arith, h))

-- the slot that a key names
pub looked_up_at : (slots keys items values : List Slot) (i k : ℕ) → slots ≡ map (looked_up items) keys → values ≡ items → i < length slots → slot_at keys i ≡ slot.Integer (pos k) → slot_at values k ≡ slot_at slots i
looked_up_at slots keys items values i k e v l w =
    let within = rw e at l in
    ap (λ z. slot_at z k) v ∙ sym (ap (λ z. slot_at z i) e ∙ map_slot (looked_up items) keys i within ∙ ap (looked_up items) w)

struct_of_same : (f g : List Field) → types.Struct f ≡ types.Struct g → f ≡ g
struct_of_same f g e = let d : open_type.Struct f ≡ open_type.Struct g = sym (outs-Struct f) ∙ ap out-DataType e ∙ outs-Struct g in cc

-- the children of a type of structs of these fields
pub struct_children : (t : DataType) (fs : List Field) (cs : List Array) (n : ℕ) → t ≡ types.Struct fs → IsStructOf t cs n → AreChildren n fs cs
struct_children t fs cs n e h = subst (λ z. AreChildren n z cs) (struct_of_same h.0 fs (sym h.1 ∙ e)) h.2

-- a child's type is less deep than the deepest
pub child_below : (cs : List Array) (k : ℕ) (c : Array) → k < length cs → c ≡ get_or cs k c → size-DataType (array_type c) + 1 ≤ children_depth cs
child_below [] k c l e = absurd (omega (arith, l))
child_below (b ∷ cs) zero c l e = let same : size-DataType (array_type c) ≡ size-DataType (array_type b) = ap (λ z. size-DataType (array_type z)) e in omega (arith, same)
child_below (b ∷ cs) (suc k) c l e = omega (arith, child_below cs k c (omega (arith, l)) e)

-- ---- dates in range

pub and_left : (a b : Bool) → (a && b) ≡ true → a ≡ true
and_left true b h = refl
and_left false b h = h

pub and_right : (a b : Bool) → (a && b) ≡ true → b ≡ true
and_right true b h = h
and_right false true h = refl
and_right false false h = h

pub and_both : (a b : Bool) → a ≡ true → b ≡ true → (a && b) ≡ true
and_both a b h l = rw h l

and_not_left : (a b : Bool) → a ≡ false → (a && b) ≡ false
and_not_left a b h = rw h refl

and_not_right : (a b : Bool) → b ≡ false → (a && b) ≡ false
and_not_right true b h = h
and_not_right false b h = refl

in_range_at : (f : Field) (a c : Array) (i : ℕ) (b : Bool) → f.data_type ≡ array_type a → c ≡ a → in_range (array_type c) (slot_at (array_slots c) i) ≡ b → in_range f.data_type (slot_at (array_slots a) i) ≡ b
in_range_at f a c i b e d h = ap (λ t. in_range t (slot_at (array_slots a) i)) e ∙ ap (λ z. in_range (array_type z) (slot_at (array_slots z) i)) (sym d) ∙ h

-- one more field is in range
more_in_range : (n : ℕ) (fs : List Field) (cs : List Array) (i k : ℕ) (c : Array) → AreChildren n fs cs → k < length cs → c ≡ get_or cs k c
    → all_in_range (take k fs) (take k (fields_at cs i)) ≡ true → in_range (array_type c) (slot_at (array_slots c) i) ≡ true
    → all_in_range (take (suc k) fs) (take (suc k) (fields_at cs i)) ≡ true
more_in_range n [] [] i k c h l e p q = absurd (omega (arith, l))
more_in_range n [] (b ∷ cs) i k c h l e p q = absurd h
more_in_range n (g ∷ fs) [] i k c h l e p q = absurd h
more_in_range n (g ∷ fs) (b ∷ cs) i zero c h l e p q = and_both _ _ (in_range_at g b c i true h.0.0 e q) p
more_in_range n (g ∷ fs) (b ∷ cs) i (suc k) c h l e p q = and_both _ _ (and_left _ _ p) (more_in_range n fs cs i k c h.1 (omega (arith, l)) e (and_right _ _ p) q)

pub one_more_in_range : (n : ℕ) (fs : List Field) (cs : List Array) (i k : ℕ) (c : Array) → AreChildren n fs cs → k < length cs → c ≡ get_or cs k c
    → all_in_range (take k fs) (take k (fields_at cs i)) ≡ true → in_range (array_type c) (slot_at (array_slots c) i) ≡ true
    → all_in_range (take (k + 1) fs) (take (k + 1) (fields_at cs i)) ≡ true
one_more_in_range n fs cs i k c h l e p q = rw add-one (more_in_range n fs cs i k c h l e p q)

-- a field isn't in range
pub not_in_range : (n : ℕ) (fs : List Field) (cs : List Array) (i k : ℕ) (c : Array) → AreChildren n fs cs → k < length cs → c ≡ get_or cs k c
    → in_range (array_type c) (slot_at (array_slots c) i) ≡ false → all_in_range fs (fields_at cs i) ≡ false
not_in_range n [] [] i k c h l e q = absurd (omega (arith, l))
not_in_range n [] (b ∷ cs) i k c h l e q = absurd h
not_in_range n (g ∷ fs) [] i k c h l e q = absurd h
not_in_range n (g ∷ fs) (b ∷ cs) i zero c h l e q = and_not_left _ _ (in_range_at g b c i false h.0.0 e q)
not_in_range n (g ∷ fs) (b ∷ cs) i (suc k) c h l e q = and_not_right _ _ (not_in_range n fs cs i k c h.1 (omega (arith, l)) e q)

pub fields_at_length : (cs : List Array) (i : ℕ) → length (fields_at cs i) ≡ length cs
fields_at_length [] i = refl
fields_at_length (c ∷ cs) i = ap suc (fields_at_length cs i)

-- at the end all are
pub all_are_in_range : (n : ℕ) (fs : List Field) (cs : List Array) (i k : ℕ) → AreChildren n fs cs → k ≡ length cs
    → all_in_range (take k fs) (take k (fields_at cs i)) ≡ true → all_in_range fs (fields_at cs i) ≡ true
all_are_in_range n fs cs i k h e p =
    let a : take k fs ≡ fs = ap (λ m. take m fs) (e ∙ sym (same_length n fs cs h)) ∙ take-length fs in
    let b : take k (fields_at cs i) ≡ fields_at cs i = ap (λ m. take m (fields_at cs i)) (e ∙ sym (fields_at_length cs i)) ∙ take-length (fields_at cs i) in
    sym (ap (λ z. all_in_range z (take k (fields_at cs i))) a ∙ ap (λ z. all_in_range fs z) b) ∙ p

-- a null is in range, and what else a slot is
pub if_held_in_range : (t : DataType) (x y : Slot) → IsTrue (is_held x) → (IsTrue (is_held x) → x ≡ y) → in_range t y ≡ in_range t x
if_held_in_range t x y h k = ap (in_range t) (sym (k h))
