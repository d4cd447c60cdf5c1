-- Keys and values together.
use Rattle.std.proofs.Common.{◌≡◌, ◌∙◌, ◌⊎◌, inl, inr, ℕ, ◌<◌, ◌≤◌, List, length, refl, sym, ap, subst, Result, Ok, Err, IfOk, IfErr, OnOk}
use Rattle.std.specs.Prelude.{sum_by, IsOk}
use Rattle.arrow_array.specs.Dictionaries.{keys_slots, keys_type}
use Rattle.arrow_array.specs.declared.keys.Keys.{Keys}
use Rattle.arrow_core.specs.declared.error.Error.{Error}
use Rattle.arrow_core.specs.declared.error.Error.TheVariants.{OutOfMemory}
use Rattle.arrow_core.specs.declared.slot.Slot.{Slot}
use Rattle.arrow_core.specs.declared.types.DataType.{DataType}
use Rattle.arrow_core.specs.declared.types.IntegerType.{IntegerType}
use Rattle.arrow_dictionaries.specs.Encoding.{EncodesSlots, HasTooLongStrings, HasTooManyDistinct, IsEncodingFault, string_size}
use Rattle.arrow_dictionaries.proofs.Faults.{strings_fault, wider_fault}
use Rattle.arrow_dictionaries.proofs.Firsts.{short_strings}
use Rattle.arrow_dictionaries.proofs.Steps.{recoded}

-- strings, once there are keys
too_long_after : (keys : Result Keys Error) (many : Type 0) (greatest : ℕ) (slots items : List Slot) (e : Error) → IsOk keys → IfOk keys (λ k. EncodesSlots slots (keys_slots k) items)
    → IsEncodingFault (greatest < sum_by string_size items) e → IsEncodingFault (many ⊎ HasTooLongStrings greatest slots) e
too_long_after (Ok k) many greatest slots items e o h f = strings_fault greatest many slots (keys_slots k) items e h f
too_long_after (Err x) many greatest slots items e o h f = absurd cc

module _ {V : Type 0} (keys : Result Keys Error) (values : Result V Error) where
  pub key_is : (key : IntegerType) (r : Result (Keys × V) Error) → IfOk keys (λ k. keys_type k ≡ key) → IfOk r (λ p. keys ≡ Ok p.0) → IfOk r (λ p. keys_type p.0 ≡ key)
  key_is key (Ok p) h e = subst (λ z. IfOk z (λ k. keys_type k ≡ key)) e h
  key_is key (Err x) h e = tt

  pub type_is : (r : Result (Keys × V) Error) (view : V → DataType) (t u : DataType) → t ≡ u → IfOk values (λ a. view a ≡ t) → IfOk r (λ p. values ≡ Ok p.1) → IfOk r (λ p. view p.1 ≡ u)
  type_is (Ok p) view t u i h e = subst (λ z. IfOk z (λ a. view a ≡ t)) e h ∙ i
  type_is (Err x) view t u i h e = tt

  pub slots_are : (r : Result (Keys × V) Error) (view : V → List Slot) (slots items shown : List Slot) → IfOk keys (λ k. EncodesSlots slots (keys_slots k) items) → IfOk values (λ a. view a ≡ shown) → shown ≡ items
      → IfOk r (λ p. keys ≡ Ok p.0) → IfOk r (λ p. values ≡ Ok p.1) → IfOk r (λ p. EncodesSlots slots (keys_slots p.0) (view p.1))
  slots_are (Ok p) view slots items shown h v s k e =
      recoded slots (keys_slots p.0) (keys_slots p.0) items (view p.1) refl (subst (λ z. IfOk z (λ a. view a ≡ shown)) e v ∙ s) (subst (λ z. IfOk z (λ k. EncodesSlots slots (keys_slots k) items)) k h)
  slots_are (Err x) view slots items shown h v s k e = tt

  -- what is so of keys that were made
  pub keys_tell : (r : Result (Keys × V) Error) (P : Type 0) → OnOk keys P → IfOk r (λ p. keys ≡ Ok p.0) → OnOk r P
  keys_tell (Ok p) P h e = subst (λ z. OnOk z P) e h
  keys_tell (Err x) P h e = tt

  pub short_enough : (r : Result (Keys × V) Error) (greatest : ℕ) (slots items shown : List Slot) → IfOk keys (λ k. EncodesSlots slots (keys_slots k) items) → OnOk values (sum_by string_size shown ≤ greatest) → shown ≡ items
      → IfOk r (λ p. keys ≡ Ok p.0) → IfOk r (λ p. values ≡ Ok p.1) → OnOk r (HasTooLongStrings greatest slots → ⊥)
  short_enough (Ok p) greatest slots items shown h v s k e =
      short_strings greatest slots (keys_slots p.0) items (subst (λ z. IfOk z (λ k. EncodesSlots slots (keys_slots k) items)) k h)
      (subst (λ z. sum_by string_size z ≤ greatest) s (subst (λ z. OnOk z (sum_by string_size shown ≤ greatest)) e v))
  short_enough (Err x) greatest slots items shown h v s k e = tt

  pub primitive_fault : (r : Result (Keys × V) Error) (many : Type 0) → IfErr keys (IsEncodingFault many) → IfErr values (λ e. e ≡ OutOfMemory) → IfErr r (λ e. (keys ≡ Err e) ⊎ (IsOk keys × (values ≡ Err e))) → IfErr r (IsEncodingFault many)
  primitive_fault (Ok p) many k v e = tt
  primitive_fault (Err x) many k v (inl e) = subst (λ z. IfErr z (IsEncodingFault many)) e k
  primitive_fault (Err x) many k v (inr e) = inl (subst (λ z. IfErr z (λ y. y ≡ OutOfMemory)) e.1 v)

  -- strings are too long only where they are those of all slots
  pub string_fault : (r : Result (Keys × V) Error) (many : Type 0) (greatest : ℕ) (slots items shown : List Slot) → IfOk keys (λ k. EncodesSlots slots (keys_slots k) items) → shown ≡ items → IfErr keys (IsEncodingFault many)
      → IfErr values (IsEncodingFault (greatest < sum_by string_size shown)) → IfErr r (λ e. (keys ≡ Err e) ⊎ (IsOk keys × (values ≡ Err e))) → IfErr r (IsEncodingFault (many ⊎ HasTooLongStrings greatest slots))
  string_fault (Ok p) many greatest slots items shown h s k v e = tt
  string_fault (Err x) many greatest slots items shown h s k v (inl e) = wider_fault many (many ⊎ HasTooLongStrings greatest slots) x inl (subst (λ z. IfErr z (IsEncodingFault many)) e k)
  string_fault (Err x) many greatest slots items shown h s k v (inr e) =
      too_long_after keys many greatest slots items x e.0 h
      (subst (λ z. IsEncodingFault (greatest < sum_by string_size z) x) s (subst (λ z. IfErr z (IsEncodingFault (greatest < sum_by string_size shown))) e.1 v))
