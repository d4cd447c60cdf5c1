-- The slots of an array, by its validity and by the slots that are held.
use Rattle.std.proofs.Common.{◌≡◌, ◌∙◌, ℕ, ℤ, zero, suc, ◌+◌, ◌*◌, ◌/◌, ◌<◌, Bool, true, false, cond, List, [], ◌∷◌, ◌++◌, length, map, slice_index_or, take, drop, Option, Some, None, refl, sym, ap, arith, zero-add}
use Rattle.std.specs.Prelude.{IsTrue}
use Rattle.std.proofs.lemmas.List.{map-append, take_all, take_more}
use Rattle.std.proofs.Math.Nat.{mul-div_cancel}
use Rattle.std.proofs.lemmas.List.Elements.{All-get_or}
use Rattle.arrow_array.specs.Arrays.{array_slots}
use Rattle.arrow_array.specs.FixedLists.{fixed_list_at}
use Rattle.arrow_array.specs.Lists.{list_at}
use Rattle.arrow_array.specs.Slots.{is_held, shown, slot_at, slots_of, TellsHeld}
use Rattle.arrow_array.specs.Structs.{first_len, AreChildren, IsStructOf}
use Rattle.arrow_array.specs.declared.array.Array.{Array}
use Rattle.arrow_array.specs.Bits.{Packed}
use Rattle.arrow_dictionaries.proofs.Steps.{not_held}
use Rattle.arrow_flat.proofs.Bits.{made_alike}
use Rattle.arrow_flat.proofs.ListOffsets.{slots_from-cut}
use Rattle.arrow_core.specs.declared.slot.Slot.{Slot}
use Rattle.arrow_core.specs.declared.slot.Slot.TheVariants as slot
use Rattle.arrow_core.specs.declared.types.DataType.{DataType}
use Rattle.arrow_core.specs.declared.types.Field.{Field}

held_at : (xs : List Slot) (k : ℕ) → k < length xs → slice_index_or (map is_held xs) k false ≡ is_held (slot_at xs k)
held_at [] k lt = absurd (omega (arith, lt))
held_at (x ∷ xs) zero lt = refl
held_at (x ∷ xs) (suc k) lt = held_at xs k (omega (arith, lt))

by_held : (b : Bool) (x s : Slot) → is_held s ≡ b → (IsTrue b → s ≡ x) → cond b x slot.Null ≡ s
by_held true x s e h = sym (h refl)
by_held false x s e h = sym (not_held s e)

one_shown : (f : ℕ → Slot) (v : Option Packed) (xs : List Slot) → TellsHeld v xs → ((k : ℕ) → k < length xs → IsTrue (is_held (slot_at xs k)) → slot_at xs k ≡ f k) → (k : ℕ) → k < length xs → shown v k (f k) ≡ slot_at xs k
one_shown f None xs t h k lt = sym (h k lt (All-get_or (λ x. IsTrue (is_held x)) xs k slot.Null lt t))
one_shown f (Some v) xs t h k lt =
    let e : slice_index_or v.booleans k false ≡ is_held (slot_at xs k) = ap (λ (bs : List Bool). slice_index_or bs k false) t ∙ held_at xs k lt in
    ap (λ b. cond b (f k) slot.Null) e ∙ by_held (is_held (slot_at xs k)) (f k) (slot_at xs k) refl (h k lt)

-- the slots that what is held makes, where a validity tells what is
pub slots_again : (f : ℕ → Slot) (v : Option Packed) (xs : List Slot) (n : ℕ) → n ≡ length xs → TellsHeld v xs → ((k : ℕ) → k < length xs → IsTrue (is_held (slot_at xs k)) → slot_at xs k ≡ f k) → slots_of f v 0 n ≡ xs
slots_again f v xs n e t h =
    made_alike (λ i. shown v i (f (0 + i))) (slot_at xs) 0 0 n (λ i lt. rw (zero-add i) (rw (zero-add i) (one_shown f v xs t h i (omega (arith, lt, e)))))
    ∙ slots_from-cut xs 0 n (omega (arith, e)) ∙ take_all n (drop 0 xs) (omega (arith, e))

-- lists at the same offsets into the same items
pub lists_again : (xs items vals : List Slot) (offsets copied : List ℤ) (v : Option Packed) (n : ℕ) → copied ≡ offsets → vals ≡ items → n ≡ length xs → TellsHeld v xs → ((k : ℕ) → k < length xs → IsTrue (is_held (slot_at xs k)) → slot_at xs k ≡ list_at offsets items k) → slots_of (list_at copied vals) v 0 n ≡ xs
lists_again xs items vals offsets copied v n o i e t h =
    slots_again (list_at copied vals) v xs n e t (λ k lt held. h k lt held ∙ sym (λ j. list_at (o j) (i j) k))

-- lists of the same size of the same items
pub fixed_lists_again : (size old : ℕ) (xs vals : List Slot) (v : Option Packed) → size ≡ old → 0 < size → length vals ≡ length xs * old → TellsHeld v xs → ((k : ℕ) → k < length xs → IsTrue (is_held (slot_at xs k)) → slot_at xs k ≡ fixed_list_at old vals k) → slots_of (fixed_list_at size vals) v 0 (length vals / size) ≡ xs
fixed_lists_again size old xs vals v e some count t h =
    let many : length vals / size ≡ length xs = ap (λ m. m / size) (count ∙ ap (λ s. length xs * s) (sym e)) ∙ mul-div_cancel (length xs) some in
    slots_again (fixed_list_at size vals) v xs (length vals / size) many t (λ k lt held. h k lt held ∙ ap (λ s. fixed_list_at s vals k) (sym e))

-- ---- the children of structs

first_is : (n : ℕ) (fields : List Field) (columns made : List Array) → AreChildren n fields columns → map array_slots made ≡ map array_slots columns → 0 < length made → first_len made ≡ n
first_is n fields columns [] c e some = absurd (omega (arith, some))
first_is n [] [] (a ∷ made) c e some = absurd cc
first_is n [] (b ∷ columns) (a ∷ made) c e some = absurd c
first_is n (f ∷ fields) [] (a ∷ made) c e some = absurd c
first_is n (f ∷ fields) (b ∷ columns) (a ∷ made) c e some =
    let same : array_slots a ≡ array_slots b = cc in
    ap length same ∙ c.0.1

pub children_count : (t : DataType) (n : ℕ) (columns made : List Array) → IsStructOf t columns n → map array_slots made ≡ map array_slots columns → 0 < length made → first_len made ≡ n
children_count t n columns made s e some = first_is n s.0 columns made s.2 e some

-- one column more
pub slots_more : (columns made after : List Array) (i : ℕ) (a b : Array) → i < length columns → a ≡ slice_index_or columns i a → array_slots b ≡ array_slots a → after ≡ made ++ b ∷ [] → map array_slots made ≡ map array_slots (take i columns) → map array_slots after ≡ map array_slots (take (i + 1) columns)
slots_more columns made after i a b lt is s n so_far =
    ap (map array_slots) n ∙ map-append array_slots made (b ∷ []) ∙ (λ k. so_far k ++ s k ∷ [])
    ∙ sym (ap (map array_slots) (take_more columns i a lt ∙ ap (λ (x : Array). take i columns ++ x ∷ []) (sym is)) ∙ map-append array_slots (take i columns) (a ∷ []))
