-- Columns that show no flaw, as can be told without a look at their slots.
use Rattle.std.proofs.Common.{◌≡◌, ◌∙◌, ℕ, zero, suc, ◌+◌, ◌-◌, ◌<◌, ◌≤◌, ℤ, pos, negsuc, Bool, true, false, ◌&&◌, ◌||◌, List, [], ◌∷◌, length, take, drop, get_or, Option, Some, None, refl, sym, ap, subst, arith, inl, inr, ◌⊎◌}
use Rattle.std.specs.Bool.{OnTrue}
use Rattle.std.specs.List.{list_any}
use Rattle.std.specs.Prelude.{is_some}
use Rattle.std.proofs.lemmas.Bool.{false≢true}
use Rattle.arrow_core.specs.declared.slot.Slot.{Slot}
use Rattle.arrow_array.specs.declared.array.Array.{Array as AnArray}
use Rattle.arrow_array.specs.declared.array.Array.TheVariants.{Null, Dictionary}
use Rattle.arrow_array.specs.Arrays.{TellsValidity, array_slots}
use Rattle.arrow_array.specs.Lists.{list_at}
use Rattle.arrow_array.specs.Offsets.{between, offset_at, part}
use Rattle.arrow_array.specs.Slots.{TellsHeld, is_held, slot_at}
use Rattle.arrow_array.specs.Structs.{HaveSlots}
use Rattle.avro_schema.specs.declared.schema.Schema.{Schema, Union}
use Rattle.avro_encode.specs.Listed.{slots_across}
use Rattle.avro_encode.specs.Plain.{parts_of}
use Rattle.avro_encode.proofs.Appending.{across_at}
use Rattle.avro_encode.proofs.PlainLaw.{parts_list}
use Rattle.avro_schema.specs.Carried.{IsNoUnion}
use Rattle.avro_write.specs.declared.flaws.Flaw.{Flaw}
use Rattle.avro_write.specs.declared.flaws.Flaw.TheVariants as flaw
use Rattle.avro_write.specs.Flaws.{null_flaw, shows}
use Rattle.avro_write.specs.Shown.{EachSlot, NoValueShows, member_shows_of}
use Rattle.avro_write.proofs.Flawed.{none_at, of_null, of_union}

pub on_true_map : (b : Bool) {P Q : Type 0} → (P → Q) → OnTrue b P → OnTrue b Q
on_true_map true f h = f h
on_true_map false f h = tt

pub none_is : {A : Type 0} (o : Option A) → is_some o ≡ false → o ≡ None
none_is None e = refl
none_is (Some x) e = absurd (false≢true (sym e))

-- an array but of nulls and dictionaries tells by its validity which slots are held
pub validity_told : (array : AnArray) (v : _) → TellsValidity array v → ((a : _) → array ≡ Null a → ⊥) → ((a : _) → array ≡ Dictionary a → ⊥) → TellsHeld v (array_slots array)
validity_told (Null a) v h n d = absurd (n a refl)
validity_told (Dictionary a) v h n d = absurd (d a refl)
validity_told _ v h n d = h

held_or_not : (b : Bool) → (b ≡ true) ⊎ (b ≡ false)
held_or_not true = inl refl
held_or_not false = inr refl

-- no slot shows the flaw where no value does and no null is the flaw
pub slots_clean : (f : Flaw) (s : Schema) (slots : List Slot) → IsNoUnion s → EachSlot slots (λ x. null_flaw f x ≡ false) → NoValueShows (shows f s) slots → list_any (shows f s) slots ≡ false
slots_clean f s slots n nulls values =
    none_at (shows f s) slots (λ i l. elim (held_or_not (is_held (slot_at slots i))) [ inl held ↦ values i l held | inr not_held ↦ of_null f s (slot_at slots i) n not_held ∙ nulls i l ])

-- nor does one under a union where no value does under its member
pub members_clean : (f : Flaw) (s : Schema) (members given : List Schema) (slots : List Slot) → s ≡ Union members → given ≡ members → NoValueShows (member_shows_of f given) slots → list_any (shows f s) slots ≡ false
members_clean f s members given slots e same values =
    none_at (shows f s) slots (λ i l. sym (of_union f s members given (slot_at slots i) e same) ∙ both (is_held (slot_at slots i)) (member_shows_of f given (slot_at slots i)) (values i l))
  where
    both : (a b : Bool) → (a ≡ true → b ≡ false) → (a && b) ≡ false
    both true b h = h refl
    both false b h = refl

-- ---- parts of a list of slots none of which passes a test

or_parts : (a b : Bool) → (a || b) ≡ false → (a ≡ false) × (b ≡ false)
or_parts false b e = (refl, e)
or_parts true b e = (e, absurd cc)

module _ (p : Slot → Bool) where
  pub at_none : (xs : List Slot) (i : ℕ) → list_any p xs ≡ false → i < length xs → p (slot_at xs i) ≡ false
  at_none [] i e l = absurd (omega (arith, l))
  at_none (x ∷ xs) zero e l = (or_parts (p x) (list_any p xs) e).0
  at_none (x ∷ xs) (suc i) e l = at_none xs i (or_parts (p x) (list_any p xs) e).1 (omega (arith, l))

  drop_none : (n : ℕ) (xs : List Slot) → list_any p xs ≡ false → list_any p (drop n xs) ≡ false
  drop_none zero xs e = e
  drop_none (suc n) [] e = refl
  drop_none (suc n) (x ∷ xs) e = drop_none n xs (or_parts (p x) (list_any p xs) e).1

  take_none : (n : ℕ) (xs : List Slot) → list_any p xs ≡ false → list_any p (take n xs) ≡ false
  take_none zero xs e = refl
  take_none (suc n) [] e = refl
  take_none (suc n) (x ∷ xs) e = let h = or_parts (p x) (list_any p xs) e in λ j. h.0 j || take_none n xs h.1 j

  between_none : (a b : ℤ) (xs : List Slot) → list_any p xs ≡ false → list_any p (between a b xs) ≡ false
  between_none (pos a) (pos b) xs e = take_none (b - a) (drop a xs) (drop_none a xs e)
  between_none (pos a) (negsuc b) xs e = refl
  between_none (negsuc a) b xs e = refl

-- no list shows the flaw where no slot of the child does
pub lists_clean : (p : Slot → Bool) (array : AnArray) (slots items child : List Slot) (offsets : List ℤ) → array_slots array ≡ slots → child ≡ items → ((k : ℕ) → k < length slots → is_held (slot_at slots k) ≡ true → slot_at slots k ≡ list_at offsets items k)
    → list_any p child ≡ false → NoValueShows (λ x. list_any p (parts_of x)) (array_slots array)
lists_clean p array slots items child offsets e same given none =
    subst (λ (xs : List Slot). NoValueShows (λ x. list_any p (parts_of x)) xs) (sym e)
    (λ i l held. ap (list_any p) (ap parts_of (given i l held) ∙ parts_list (part offsets items i)) ∙ between_none p (offset_at offsets i) (offset_at offsets (i + 1)) items (subst (λ (xs : List Slot). list_any p xs ≡ false) same none))

-- the field at k shows no flaw where its child doesn't
pub child_clean : (f : Flaw) (s : Schema) (children : List AnArray) (i k : ℕ) (child : AnArray) → HaveSlots (i + 1) children → k < length children → child ≡ get_or children k child → list_any (shows f s) (array_slots child) ≡ false
    → shows f s (slot_at (slots_across children i) k) ≡ false
child_clean f s children i k child have there is none =
    let l : i + 1 ≤ length (array_slots child) = subst (λ z. i + 1 ≤ length (array_slots z)) (sym is) (have k child there) in
    ap (shows f s) (across_at children i k child there is) ∙ at_none (shows f s) (array_slots child) i none (omega (arith, l))
