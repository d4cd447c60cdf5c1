-- Runs of slots in range, and of structs by their indices.
use Rattle.std.proofs.Common.{◌≡◌, ℕ, zero, suc, ◌+◌, ◌-◌, ◌<◌, ◌≤◌, Bool, true, false, ◌&&◌, ◌⊎◌, List, [], ◌∷◌, length, take, drop, get_or, refl, sym, ap, ◌∙◌, subst, arith, inl, inr}
use Rattle.std.specs.List.{list_all, range_with_len}
use Rattle.std.proofs.lemmas.List.{drop_more, take_all}
use Rattle.std.proofs.lemmas.List.Elements.{All-get_or}
use Rattle.std.proofs.lemmas.List.Folds.{list_all_at}
use Rattle.std.proofs.lemmas.List.FromFn.{get_or-range_with_len, length-range_with_len}
use Rattle.arrow_core.specs.declared.slot.Slot.{Slot}
use Rattle.arrow_core.specs.declared.slot.Slot.TheVariants as slot
use Rattle.arrow_array.specs.declared.array.Array.{Array}
use Rattle.arrow_array.specs.Arrays.{array_slots}
use Rattle.arrow_array.specs.Slots.{slot_at}
use Rattle.arrow_array.specs.Structs.{HaveSlots}
use Rattle.json_text.proofs.Joined.{part_at, part_length}
use Rattle.json_text.proofs.Records.{and_left, and_right, and_both}

-- each index from a on, n of them
pub each_index : (p : ℕ → Bool) (a n : ℕ) → ((i : ℕ) → a ≤ i → i < a + n → p i ≡ true) → list_all p (range_with_len a n) ≡ true
each_index p a zero h = refl
each_index p a (suc n) h = and_both (p a) _ (h a (omega arith) (omega arith)) (each_index p (a + 1) n (λ i l m. h i (omega (arith, l)) (omega (arith, m))))

-- one of them not
pub not_each_index : (p : ℕ → Bool) (a n i : ℕ) → a ≤ i → i < a + n → p i ≡ false → list_all p (range_with_len a n) ≡ false
not_each_index p a n i l m e =
    let within : i - a < length (range_with_len a n) = omega (arith, l, m, length-range_with_len a n) in
    let at : get_or (range_with_len a n) (i - a) 0 ≡ i = get_or-range_with_len a n (i - a) 0 (omega (arith, l, m)) ∙ omega (arith, l) in
    list_all_at p (range_with_len a n) (i - a) 0 within (ap p at ∙ e)

pub one_index : (p : ℕ → Bool) (i : ℕ) → list_all p (range_with_len i (i + 1 - i)) ≡ p i
one_index p i =
    let one : i + 1 - i ≡ 1 = omega arith in
    ap (λ n. list_all p (range_with_len i n)) one ∙ and_true (p i)
  where
    and_true : (b : Bool) → (b && true) ≡ b
    and_true true = refl
    and_true false = refl

each_at : (p : Slot → Bool) (xs : List Slot) (k : ℕ) → list_all p xs ≡ true → k < length xs → p (slot_at xs k) ≡ true
each_at p [] k h l = absurd (omega (arith, l))
each_at p (x ∷ xs) zero h l = and_left (p x) _ h
each_at p (x ∷ xs) (suc k) h l = each_at p xs k (and_right (p x) _ h) (omega (arith, l))

-- which of the slots isn't in range
abbrev pub SomeOut : (Slot → Bool) → List Slot → ℕ → ℕ → Type 0
SomeOut p xs a b = (i : ℕ) × ((a ≤ i) × ((i < b) × (p (slot_at xs i) ≡ false)))

some_out : (p : Slot → Bool) (xs : List Slot) → list_all p xs ≡ false → SomeOut p xs 0 (length xs)
some_out p [] h = absurd (cc)
some_out p (x ∷ xs) h = elim (not_both (p x) _ h) [
  | inl e ↦ (0, (omega arith, (omega arith, e)))
  | inr e ↦ let more = some_out p xs e in (suc more.0, (omega arith, (omega (arith, more.1.1.0), more.1.1.1)))
]
  where
    not_both : (a b : Bool) → (a && b) ≡ false → (a ≡ false) ⊎ (b ≡ false)
    not_both true b h = inr h
    not_both false b h = inl refl

-- where a run is in range, each of its slots is
pub of_run : (p : Slot → Bool) (xs : List Slot) (a b i : ℕ) → a ≤ b → b ≤ length xs → list_all p (take (b - a) (drop a xs)) ≡ true → a ≤ i → i < b → p (slot_at xs i) ≡ true
of_run p xs a b i o w h l m =
    let n = part_length xs a b o w in
    let at : a + (i - a) ≡ i = omega (arith, l) in
    ap p (sym (part_at xs a b (i - a) slot.Null o w (omega (arith, l, m)) ∙ ap (slot_at xs) at)) ∙ each_at p (take (b - a) (drop a xs)) (i - a) h (omega (arith, l, m, n))

-- where it isn't, one of them isn't
pub out_of_run : (p : Slot → Bool) (xs : List Slot) (a b : ℕ) → a ≤ b → b ≤ length xs → list_all p (take (b - a) (drop a xs)) ≡ false → SomeOut p xs a b
out_of_run p xs a b o w h =
    let n = part_length xs a b o w in
    let out = some_out p (take (b - a) (drop a xs)) h in
    let below : out.0 < b - a = omega (arith, out.1.1.0, n) in
    (a + out.0, (omega arith, (omega (arith, below), ap p (sym (part_at xs a b out.0 slot.Null o w below)) ∙ out.1.1.1)))

-- a run by its indices
pub by_indices : (p : Slot → Bool) (q : ℕ → Bool) (xs : List Slot) (a n : ℕ) → a + n ≤ length xs → ((i : ℕ) → a ≤ i → i < a + n → q i ≡ p (slot_at xs i)) → list_all q (range_with_len a n) ≡ list_all p (take n (drop a xs))
by_indices p q xs a zero l h = refl
by_indices p q xs a (suc n) l h =
    let here : drop a xs ≡ slot_at xs a ∷ drop (a + 1) xs = drop_more xs a slot.Null (omega (arith, l)) in
    ap (λ b. b && list_all q (range_with_len (a + 1) n)) (h a (omega arith) (omega arith))
    ∙ ap (λ b. p (slot_at xs a) && b) (by_indices p q xs (a + 1) n (omega (arith, l)) (λ i g m. h i (omega (arith, g)) (omega (arith, m))))
    ∙ sym (ap (λ z. list_all p (take (suc n) z)) here)

-- a run of all slots
pub whole_run : (p : Slot → Bool) (xs : List Slot) → list_all p (take (length xs - 0) (drop 0 xs)) ≡ list_all p xs
whole_run p xs = ap (list_all p) (take_all (length xs - 0) xs (omega arith))

-- a child has as many slots as each
pub slots_of_child : (n : ℕ) (children : List Array) (k : ℕ) (child : Array) → HaveSlots n children → k < length children → child ≡ get_or children k child → n ≤ length (array_slots child)
slots_of_child n children k child h l e = subst (λ z. n ≤ length (array_slots z)) (sym e) (All-get_or (λ z. n ≤ length (array_slots z)) children k child l h)
