-- The texts of slots with commas between them, slot by slot.
use Rattle.std.proofs.Common.{◌≡◌, ℕ, zero, suc, ◌+◌, ◌<◌, ◌==◌, List, [], ◌∷◌, ◌++◌, length, take, map, codes, if◌then◌else◌, sym, ap, ◌∙◌, refl, append_assoc, add-one, arith, false}
use Rattle.std.proofs.lemmas.Bool.Decides.{nat_tests}
use Rattle.arrow_core.specs.declared.slot.Slot.{Slot}
use Rattle.arrow_array.specs.Slots.{slot_at}
use Rattle.avrocat_commands.specs.Shown.{joined, slot_text}

next : (xs : List Slot) (i : ℕ) → i < length xs
    → (joined (map slot_text (take i xs)) ++ (if i == 0 then [] else codes ",")) ++ slot_text (slot_at xs i) ≡ joined (map slot_text (take (suc i) xs))
next [] i h = absurd (omega arith)
next (x ∷ xs) zero h = refl
next (x ∷ []) (suc k) h = absurd (omega arith)
next (x ∷ y ∷ ys) (suc zero) h = append_assoc (slot_text x) (codes ",") (slot_text y)
next (x ∷ y ∷ ys) (suc (suc m)) h =
    let inner : ((suc m) == 0) ≡ false = grind (arith, nat_tests) in
    let outer : ((suc (suc m)) == 0) ≡ false = grind (arith, nat_tests) in
    let before : List ℕ = joined (map slot_text (take (suc m) (y ∷ ys))) in
    let text : List ℕ = slot_text (slot_at (y ∷ ys) (suc m)) in
    let further = rw inner at (next (y ∷ ys) (suc m) (omega arith)) in
    rw outer (append_assoc (slot_text x ++ (44 ∷ before)) (codes ",") text ∙ append_assoc (slot_text x) (44 ∷ before) (44 ∷ text)
    ∙ ap (λ z. slot_text x ++ (44 ∷ z)) (sym (append_assoc before (codes ",") text) ∙ further))

-- What follows a text and the slots before index i: a comma where one is wanted, and slot i.
pub joined_more : (text slots_before with_comma with_slot : List ℕ) (xs : List Slot) (i : ℕ) → i < length xs
    → slots_before ≡ text ++ joined (map slot_text (take i xs))
    → with_comma ≡ slots_before ++ (if i == 0 then [] else codes ",")
    → with_slot ≡ with_comma ++ slot_text (slot_at xs i)
    → with_slot ≡ text ++ joined (map slot_text (take (i + 1) xs))
joined_more text slots_before with_comma with_slot xs i h before comma slot =
    let J : List ℕ = joined (map slot_text (take i xs)) in
    let C : List ℕ = if i == 0 then [] else codes "," in
    slot ∙ ap (λ z. z ++ slot_text (slot_at xs i)) (comma ∙ ap (λ z. z ++ C) before ∙ append_assoc text J C)
    ∙ append_assoc text (J ++ C) (slot_text (slot_at xs i)) ∙ ap (λ z. text ++ z) (rw add-one (next xs i h))
