-- Several meanings together.
use Rattle.std.proofs.Common.{◌≡◌, inl, inr, List, [], ◌∷◌, map, refl, ap, ◌∙◌}
use Rattle.arrow_core.specs.declared.slot.Slot.{Slot}
use Rattle.json_flat.specs.Meaning.{Meaning, slot_of, text_timestamp, unfit}
use Rattle.json_flat.specs.Columns.{IsNoSlot}
use Rattle.json_flat.specs.Reading.{Together, all_slots, some_text, some_unfit, beside, together, made_of}
use Rattle.json_columns.proofs.Anywhere.{AnyOf}

all_of : (ss : List Slot) → together (map slot_of ss) ≡ all_slots ss
all_of [] = refl
all_of (s ∷ ss) = ap (beside (slot_of s)) (all_of ss)

-- where each means a slot
pub made : (make : List Slot → Slot) (ms : List Meaning) (ss : List Slot) → ms ≡ map slot_of ss → made_of make (together ms) ≡ slot_of (make ss)
made make ms ss e = ap (λ l. made_of make (together l)) e ∙ ap (made_of make) (all_of ss)

text_behind : (m : Meaning) → beside m some_text ≡ some_text
text_behind (slot_of s) = refl
text_behind text_timestamp = refl
text_behind unfit = refl

text_among : (ms : List Meaning) → AnyOf (λ m. m ≡ text_timestamp) ms → together ms ≡ some_text
text_among [] h = absurd h
text_among (m ∷ ms) (inl e) = ap (λ z. beside z (together ms)) e
text_among (m ∷ ms) (inr h) = ap (beside m) (text_among ms h) ∙ text_behind m

-- where one is a text
pub made_text : (make : List Slot → Slot) (ms : List Meaning) → AnyOf (λ m. m ≡ text_timestamp) ms → made_of make (together ms) ≡ text_timestamp
made_text make ms h = ap (made_of make) (text_among ms h)

abbrev NotAll : Together → Type 0
NotAll (all_slots ss) = ⊥
NotAll _ = Unit {0}

first_none : (m : Meaning) (t : Together) → IsNoSlot m → NotAll (beside m t)
first_none (slot_of s) t h = absurd h
first_none text_timestamp t h = tt
first_none unfit (all_slots ss) h = tt
first_none unfit some_text h = tt
first_none unfit some_unfit h = tt

later_none : (m : Meaning) (t : Together) → NotAll t → NotAll (beside m t)
later_none m (all_slots ss) h = absurd h
later_none (slot_of s) some_text h = tt
later_none (slot_of s) some_unfit h = tt
later_none text_timestamp some_text h = tt
later_none text_timestamp some_unfit h = tt
later_none unfit some_text h = tt
later_none unfit some_unfit h = tt

none_among : (ms : List Meaning) → AnyOf IsNoSlot ms → NotAll (together ms)
none_among [] h = absurd h
none_among (m ∷ ms) (inl p) = first_none m (together ms) p
none_among (m ∷ ms) (inr h) = later_none m (together ms) (none_among ms h)

not_made : (make : List Slot → Slot) (t : Together) → NotAll t → IsNoSlot (made_of make t)
not_made make (all_slots ss) h = absurd h
not_made make some_text h = tt
not_made make some_unfit h = tt

-- where one means no slot
pub made_none : (make : List Slot → Slot) (ms : List Meaning) → AnyOf IsNoSlot ms → IsNoSlot (made_of make (together ms))
made_none make ms h = not_made make (together ms) (none_among ms h)
