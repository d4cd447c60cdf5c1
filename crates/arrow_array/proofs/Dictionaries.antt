-- The slots of a dictionary, its keys, and cuts of them.
use Rattle.std.proofs.Common.{◌≡◌, sym, ◌∙◌, ap, arith, ℕ, ◌+◌, ◌<◌, ◌≤◌, List, map, length, take, drop, subst}
use Rattle.std.proofs.lemmas.List.{length-map}
use Rattle.arrow_core.specs.declared.slot.Slot.{Slot, Null}
use Rattle.arrow_core.specs.declared.slot.Slot.TheVariants as slot
use Rattle.arrow_array.specs.Dictionaries.{DictionaryColumn, IsKeyInto, looked_up}
use Rattle.arrow_array.specs.Slots.{slot_at}
use Rattle.arrow_array.proofs.Cuts.{at_cut, length_cut, map_cut}

-- the slots of what a view gives
pub dictionary_slots_are : {a b : DictionaryColumn} → a ≡ b → a.slots ≡ b.slots
dictionary_slots_are e = ap (λ (c : DictionaryColumn). c.slots) e

pub dictionary_types_are : {a b : DictionaryColumn} → a ≡ b → a.data_type ≡ b.data_type
dictionary_types_are e = ap (λ (c : DictionaryColumn). c.data_type) e

pub dictionary_keys_are : {a b : DictionaryColumn} → a ≡ b → a.keys ≡ b.keys
dictionary_keys_are e = ap (λ (c : DictionaryColumn). c.keys) e

pub dictionary_items_are : {a b : DictionaryColumn} → a ≡ b → a.items ≡ b.items
dictionary_items_are e = ap (λ (c : DictionaryColumn). c.items) e

module _ (items keys xs : List Slot) (is : map (looked_up items) keys ≡ xs) where
  pub count_keys : length keys ≡ length xs
  count_keys = sym (length-map keys (looked_up items)) ∙ ap length is

pub keys_cut : (n o k : ℕ) (keys : List Slot) → o + k ≤ length keys → ((i : ℕ) → i < length keys → IsKeyInto n (slot_at keys i)) → (i : ℕ) → i < length (take k (drop o keys)) → IsKeyInto n (slot_at (take k (drop o keys)) i)
keys_cut n o k keys l h i m =
    let c = length_cut o k keys l in
    subst (IsKeyInto n) (sym (at_cut o k keys i slot.Null (omega (arith, m, c)))) (h (o + i) (omega (arith, m, c, l)))

pub slots_cut : (items : List Slot) (o k : ℕ) (keys xs : List Slot) → map (looked_up items) keys ≡ xs → map (looked_up items) (take k (drop o keys)) ≡ take k (drop o xs)
slots_cut items o k keys xs is = map_cut (looked_up items) o k keys ∙ ap (λ z. take k (drop o z)) is
