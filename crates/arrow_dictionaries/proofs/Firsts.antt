-- The distinct slots are one list, and no more than the keys that stand for them.
use Rattle.std.proofs.Common.{◌≡◌, ◌∙◌, ◌⊎◌, inl, inr, ℕ, ◌<◌, ◌≤◌, true, pos, negsuc, List, [], ◌∷◌, ◌++◌, length, map, get_or, refl, sym, ap, subst, arith, Result, Ok, Err, IfOk, OnOk}
use Rattle.std.specs.Prelude.{sum_by}
use Rattle.std.specs.List.{All, Contains}
use Rattle.std.proofs.lemmas.Bool.{cases_lt}
use Rattle.std.proofs.lemmas.List.{get_or_default, length-append, same_from_push}
use Rattle.std.proofs.lemmas.List.Elements.{All-contains, Contains-append_left, Contains-get_or, Contains-push}
use Rattle.std.proofs.Math.ListN.{get_or-append}
use Rattle.arrow_array.specs.Dictionaries.{IsKeyInto, keys_slots, looked_up}
use Rattle.arrow_array.specs.declared.keys.Keys.{Keys}
use Rattle.arrow_array.specs.Slots.{is_held, slot_at}
use Rattle.arrow_core.specs.declared.error.Error.{Error}
use Rattle.arrow_core.specs.declared.slot.Slot.{Slot, Null, Boolean, Integer, String, Binary, List', Struct'}
use Rattle.arrow_core.specs.declared.slot.Slot.TheVariants as slot
use Rattle.arrow_core.specs.declared.types.IntegerType.{IntegerType}
use Rattle.arrow_dictionaries.specs.Encoding.{EncodesSlots, FirstSlots, none, null, again, new, HasTooLongStrings, HasTooManyDistinct, key_count, string_size}

null_is_held : (s : Slot) → is_held s ≡ true → s ≡ slot.Null → ⊥
null_is_held s held e = let h : is_held slot.Null ≡ true = ap is_held (sym e) ∙ held in absurd cc

-- ---- one list

no_last : (slots : List Slot) (s : Slot) → [] ≡ slots ++ s ∷ [] → ⊥
no_last [] s e = absurd cc
no_last (x ∷ slots) s e = absurd cc

-- what the last slot is among the distinct ones
abbrev IsLast : List Slot → Slot → List Slot → Type 0
IsLast slots s firsts =
    ((s ≡ slot.Null) × FirstSlots slots firsts)
    ⊎ ((Contains firsts s × FirstSlots slots firsts)
    ⊎ ((olds : List Slot) × (firsts ≡ olds ++ s ∷ []) × FirstSlots slots olds × (is_held s ≡ true) × (Contains olds s → ⊥)))

last_is : (all firsts : List Slot) → FirstSlots all firsts → (slots : List Slot) (s : Slot) → all ≡ slots ++ s ∷ [] → IsLast slots s firsts
last_is all firsts none slots s e = absurd (no_last slots s e)
last_is all firsts (null olds f h) slots s e =
    let p = same_from_push olds slots slot.Null s e in
    inl (sym p.1, subst (λ z. FirstSlots z f) p.0 h)
last_is all firsts (again olds f x h c) slots s e =
    let p = same_from_push olds slots x s e in
    inr (inl (subst (Contains f) p.1 c, subst (λ z. FirstSlots z f) p.0 h))
last_is all firsts (new olds f x h held absent) slots s e =
    let p = same_from_push olds slots x s e in
    inr (inr (f, (λ j. f ++ p.1 j ∷ []), subst (λ z. FirstSlots z f) p.0 h, subst (λ z. is_held z ≡ true) p.1 held, subst (λ z. Contains f z → ⊥) p.1 absent))

none_first : (all firsts : List Slot) → FirstSlots all firsts → all ≡ [] → [] ≡ firsts
none_first all firsts none e = refl
none_first all firsts (null olds f h) e = absurd (no_last olds slot.Null (sym e))
none_first all firsts (again olds f x h c) e = absurd (no_last olds x (sym e))
none_first all firsts (new olds f x h held absent) e = absurd (no_last olds x (sym e))

pub same_firsts : (slots firsts others : List Slot) → FirstSlots slots firsts → FirstSlots slots others → firsts ≡ others
same_firsts slots firsts others none k = none_first [] others k refl
same_firsts slots firsts others (null olds f h) k = elim (last_is (olds ++ slot.Null ∷ []) others k olds slot.Null refl) [
  | inl a ↦ same_firsts olds f others h a.1
  | inr r ↦ elim r [
    | inl b ↦ same_firsts olds f others h b.1
    | inr n ↦ absurd (null_is_held slot.Null n.3 refl)
  ]
]
same_firsts slots firsts others (again olds f s h c) k = elim (last_is (olds ++ s ∷ []) others k olds s refl) [
  | inl a ↦ same_firsts olds f others h a.1
  | inr r ↦ elim r [
    | inl b ↦ same_firsts olds f others h b.1
    | inr n ↦ absurd (n.4 (subst (λ z. Contains z s) (same_firsts olds f n.0 h n.2) c))
  ]
]
same_firsts slots firsts others (new olds f s h held absent) k = elim (last_is (olds ++ s ∷ []) others k olds s refl) [
  | inl a ↦ absurd (null_is_held s held a.0)
  | inr r ↦ elim r [
    | inl b ↦ absurd (absent (subst (λ z. Contains z s) (sym (same_firsts olds f others h b.1)) b.0))
    | inr n ↦ ap (λ (z : List Slot). z ++ s ∷ []) (same_firsts olds f n.0 h n.2) ∙ sym n.1
  ]
]

-- ---- no more than the keys

-- the last of keys that stand for slots, and those before it
split_last : (f : Slot → Slot) (keys slots : List Slot) (s : Slot) → map f keys ≡ slots ++ s ∷ []
    → (before : List Slot) × (key : Slot) × (keys ≡ before ++ key ∷ []) × (map f before ≡ slots) × (f key ≡ s)
split_last f [] slots s e = absurd (no_last slots s e)
split_last f (key ∷ []) [] s e = let h : f key ≡ s = cc in ([], key, refl, refl, h)
split_last f (key ∷ next ∷ keys) [] s e = absurd cc
split_last f (key ∷ keys) (x ∷ slots) s e =
    let first : f key ≡ x = cc in
    let others : map f keys ≡ slots ++ s ∷ [] = cc in
    let r = split_last f keys slots s others in
    (key ∷ r.0, r.1, (λ j. key ∷ r.2 j), (λ j. first j ∷ r.3 j), r.4)

all_before : (P : Slot → Type 0) (before more : List Slot) → All P (before ++ more) → All P before
all_before P before more h = λ i d l. All-contains P (before ++ more) (get_or before i d) h (Contains-append_left before more (get_or before i d) (Contains-get_or before i d l))

-- a slot that isn't among those before it has the last index
last_index : (firsts : List Slot) (s : Slot) (index count : ℕ) → (Contains firsts s → ⊥) → slot_at (firsts ++ s ∷ []) index ≡ s → index < count → length (firsts ++ s ∷ []) ≤ count
last_index firsts s index count absent e l = elim (cases_lt index (length firsts)) [
  | inl within ↦ absurd (absent (index, within, get_or_default firsts index s slot.Null within ∙ sym (get_or-append firsts (s ∷ []) slot.Null index within) ∙ e))
  | inr past ↦ omega (arith, past, l, length-append firsts (s ∷ []))
]

last_key : (firsts : List Slot) (s key : Slot) (count : ℕ) → is_held s ≡ true → (Contains firsts s → ⊥) → looked_up (firsts ++ s ∷ []) key ≡ s → IsKeyInto count key → length (firsts ++ s ∷ []) ≤ count
last_key firsts s Null count held absent e w = absurd (null_is_held s held (sym e))
last_key firsts s (Boolean b) count held absent e w = absurd w
last_key firsts s (Integer (pos index)) count held absent e w = last_index firsts s index count absent e w
last_key firsts s (Integer (negsuc k)) count held absent e w = absurd w
last_key firsts s (String t) count held absent e w = absurd w
last_key firsts s (Binary t) count held absent e w = absurd w
last_key firsts s (List' m row) count held absent e w = absurd w
last_key firsts s (Struct' m row) count held absent e w = absurd w

few_firsts : (slots firsts : List Slot) → FirstSlots slots firsts → (keys : List Slot) (count : ℕ) → map (looked_up firsts) keys ≡ slots → All (IsKeyInto count) keys → length firsts ≤ count
few_firsts slots firsts none keys count e w = omega arith
few_firsts slots firsts (null olds f h) keys count e w =
    let r = split_last (looked_up f) keys olds slot.Null e in
    few_firsts olds f h r.0 count r.3 (all_before (IsKeyInto count) r.0 (r.1 ∷ []) (subst (All (IsKeyInto count)) r.2 w))
few_firsts slots firsts (again olds f s h c) keys count e w =
    let r = split_last (looked_up f) keys olds s e in
    few_firsts olds f h r.0 count r.3 (all_before (IsKeyInto count) r.0 (r.1 ∷ []) (subst (All (IsKeyInto count)) r.2 w))
few_firsts slots firsts (new olds f s h held absent) keys count e w =
    let r = split_last (looked_up (f ++ s ∷ [])) keys olds s e in
    last_key f s r.1 count held absent r.4 (All-contains (IsKeyInto count) (r.0 ++ r.1 ∷ []) r.1 (subst (All (IsKeyInto count)) r.2 w) (Contains-push r.0 r.1))

-- ---- answers

-- where each key is one that keys of the type number, the distinct slots aren't too many
few_distinct : (key : IntegerType) (slots keys items : List Slot) → EncodesSlots slots keys items → All (IsKeyInto (key_count key)) keys → HasTooManyDistinct key slots → ⊥
few_distinct key slots keys items h w many =
    let few : length items ≤ key_count key = few_firsts slots items h.first keys (key_count key) h.looks_up w in
    let same : length items ≡ length many.0 = ap length (same_firsts slots items many.0 h.first many.1) in
    let over : key_count key < length many.0 = many.2 in
    absurd (omega (arith, few, same, over))

pub few_keys : (key : IntegerType) (slots items : List Slot) (r : Result Keys Error) → IfOk r (λ keys. EncodesSlots slots (keys_slots keys) items) → IfOk r (λ keys. All (IsKeyInto (key_count key)) (keys_slots keys)) → OnOk r (HasTooManyDistinct key slots → ⊥)
few_keys key slots items (Ok keys) h w = few_distinct key slots (keys_slots keys) items h w
few_keys key slots items (Err e) h w = tt

-- where the distinct strings' bytes are counted, they aren't too long
pub short_strings : (greatest : ℕ) (slots keys items : List Slot) → EncodesSlots slots keys items → sum_by string_size items ≤ greatest → HasTooLongStrings greatest slots → ⊥
short_strings greatest slots keys items h short long =
    let same : sum_by string_size items ≡ sum_by string_size long.0 = ap (sum_by string_size) (same_firsts slots items long.0 h.first long.1) in
    let over : greatest < sum_by string_size long.0 = long.2 in
    absurd (omega (arith, short, same, over))
