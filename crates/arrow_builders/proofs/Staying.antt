-- The slots of lists and structs stay while their children grow, and what one more of them is.
use Rattle.std.proofs.Common.{◌≡◌, ◌∙◌, ℕ, zero, suc, ◌+◌, ◌<◌, ◌≤◌, Bool, List, [], ◌∷◌, ◌++◌, length, map, take, drop, Option, Some, None, refl, sym, ap, arith}
use Rattle.std.proofs.lemmas.List.{length-append, take-append-le, drop-append-le}
use Rattle.arrow_core.specs.declared.slot.Slot.{Slot}
use Rattle.arrow_core.specs.declared.slot.Slot.TheVariants as slot
use Rattle.arrow_array.specs.Slots.{slot_at}
use Rattle.arrow_array.specs.Structs.{record_at}
use Rattle.arrow_flat.specs.Builders.{slots_where}
use Rattle.arrow_builders.specs.MutableArrays.{builder_slots}
use Rattle.arrow_flat.specs.Nested.{items_of, slots_from, lists_from}
use Rattle.arrow_builders.specs.declared.array.MutableArray.{MutableArray}
use Rattle.arrow_flat.proofs.ListOffsets.{slots_from-cut}
use Rattle.arrow_builders.proofs.NestedSlots.{slots_of-alike}
use Rattle.arrow_flat.specs.Bits.{mask_of}
use Rattle.arrow_builders.specs.Tight.{AllTight}

-- ---- lists

cut_stays : (s n : ℕ) (xs ys : List Slot) → s + n ≤ length xs → take n (drop s (xs ++ ys)) ≡ take n (drop s xs)
cut_stays s n xs ys le =
    ap (λ (zs : List Slot). take n zs) (drop-append-le s xs ys (omega (arith, le)))
    ∙ take-append-le n (drop s xs) ys (fits s xs le)
  where
    fits : (s : ℕ) (xs : List Slot) → s + n ≤ length xs → n ≤ length (drop s xs)
    fits zero xs le = omega (arith, le)
    fits (suc s) [] le = omega (arith, le)
    fits (suc s) (x ∷ xs) le = fits s xs (omega (arith, le))

slots_stay : (s n : ℕ) (xs ys : List Slot) → s + n ≤ length xs → slots_from (xs ++ ys) s n ≡ slots_from xs s n
slots_stay s n xs ys le =
    slots_from-cut (xs ++ ys) s n (omega (arith, le, length-append xs ys)) ∙ cut_stays s n xs ys le ∙ sym (slots_from-cut xs s n le)

pub lists_stay : (s : ℕ) (lens : List (Option ℕ)) (xs ys : List Slot) → s + items_of lens ≤ length xs → lists_from s lens (xs ++ ys) ≡ lists_from s lens xs
lists_stay s [] xs ys le = refl
lists_stay s (None ∷ lens) xs ys le = ap (λ (zs : List Slot). slot.Null ∷ zs) (lists_stay (s + 0) lens xs ys (omega (arith, le)))
lists_stay s (Some n ∷ lens) xs ys le =
    let a = slots_stay s n xs ys (omega (arith, le)) in
    let r = lists_stay (s + n) lens xs ys (omega (arith, le)) in
    rw (a, r) refl

pub drop_prefix : (xs ys : List Slot) → drop (length xs) (xs ++ ys) ≡ ys
drop_prefix [] ys = refl
drop_prefix (x ∷ xs) ys = drop_prefix xs ys

-- ---- structs

-- each child's slots with its slot of a row after them
abbrev pub grown : List (List Slot) → List Slot → List (List Slot)
grown (c ∷ cs) (x ∷ xs) = (c ++ x ∷ []) ∷ grown cs xs
grown (c ∷ cs) [] = c ∷ cs
grown [] xs = []

at_stays : (xs : List Slot) (x : Slot) (k : ℕ) → k < length xs → slot_at (xs ++ x ∷ []) k ≡ slot_at xs k
at_stays [] x k lt = absurd (omega (arith, lt))
at_stays (y ∷ xs) x zero lt = refl
at_stays (y ∷ xs) x (suc k) lt = at_stays xs x k (omega (arith, lt))

at_last : (xs : List Slot) (x : Slot) → slot_at (xs ++ x ∷ []) (length xs) ≡ x
at_last [] x = refl
at_last (y ∷ xs) x = at_last xs x

abbrev pub AllLong : ℕ → List (List Slot) → Type 0
AllLong n [] = Unit {0}
AllLong n (c ∷ cs) = (length c ≡ n) × AllLong n cs

pub tight_long : (n : ℕ) (bs : List MutableArray) → AllTight n bs → AllLong n (map builder_slots bs)
tight_long n [] h = tt
tight_long n (b ∷ bs) h = (h.0, tight_long n bs h.2)

fields_stay : (n k : ℕ) (cs : List (List Slot)) (row : List Slot) → AllLong n cs → k < n → map (λ slots. slot_at slots k) (grown cs row) ≡ map (λ slots. slot_at slots k) cs
fields_stay n k [] row h lt = refl
fields_stay n k (c ∷ cs) [] h lt = refl
fields_stay n k (c ∷ cs) (x ∷ row) h lt =
    let a = at_stays c x k (omega (arith, h.0, lt)) in
    let r = fields_stay n k cs row h.1 lt in
    rw (a, r) refl

fields_last : (n : ℕ) (cs : List (List Slot)) (row : List Slot) → AllLong n cs → length row ≡ length cs → map (λ slots. slot_at slots n) (grown cs row) ≡ row
fields_last n [] [] h l = refl
fields_last n [] (x ∷ row) h l = absurd (omega (arith, l))
fields_last n (c ∷ cs) [] h l = absurd (omega (arith, l))
fields_last n (c ∷ cs) (x ∷ row) h l =
    let a : slot_at (c ++ x ∷ []) n ≡ x = ap (slot_at (c ++ x ∷ [])) (sym h.0) ∙ at_last c x in
    let r = fields_last n cs row h.1 (omega (arith, l)) in
    rw (a, r) refl

pub records_stay : (booleans : List Bool) (cs : List (List Slot)) (row : List Slot) → AllLong (length booleans) cs → slots_where booleans (record_at (grown cs row)) ≡ slots_where booleans (record_at cs)
records_stay booleans cs row h =
    slots_of-alike (record_at (grown cs row)) (record_at cs) (mask_of booleans) booleans (length booleans) (length booleans) refl refl (λ k lt. ap slot.Struct (fields_stay (length booleans) k cs row h lt))

pub record_last : (n : ℕ) (cs : List (List Slot)) (row : List Slot) → AllLong n cs → length row ≡ length cs → record_at (grown cs row) n ≡ slot.Struct row
record_last n cs row h l = ap slot.Struct (fields_last n cs row h l)
