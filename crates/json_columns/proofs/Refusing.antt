-- The answers of a column, as those of the call.
use Rattle.std.proofs.Common.{◌≡◌, ◌⊎◌, inl, inr, true, false, List, refl, sym, subst, Result, Ok, Err, OnOk, IfOk, IfErr}
use Rattle.std.proofs.lemmas.Result.{IfErr-weaker}
use Rattle.arrow_array.specs.Arrays.{array_slots, array_type}
use Rattle.arrow_array.specs.declared.array.Array.{Array}
use Rattle.arrow_core.specs.declared.error.Error.{Error}
use Rattle.arrow_core.specs.declared.error.Error.TheVariants.{NotYetImplemented, Overflow}
use Rattle.arrow_core.specs.declared.error.Reason.TheVariants as reason
use Rattle.arrow_core.specs.declared.types.DataType.{DataType}
use Rattle.arrow_core.specs.declared.types.DataType.TheVariants as types
use Rattle.arrow_core.specs.declared.types.Field.{Field}
use Rattle.json_tree.specs.Tree.{Json, array}
use Rattle.json_tree.specs.declared.value.Value.TheVariants as variant
use Rattle.json_flat.specs.Meaning.{Meaning, Layer, slot_of, text_timestamp, unfit}
use Rattle.json_flat.specs.Columns.{AreSlotsOf, Has, HasNoSlot, IsNoSlot, means}
use Rattle.json_columns.specs.Faults.{IsFault, TooMany}
use Rattle.json_flat.specs.Names.{names_twice}
use Rattle.json_flat.specs.Reading.{has_reading, reading}
use Rattle.json_columns.specs.Refusals.{IsColumnOf, IsListRefusal, IsRefusal}

no_slot : (m : Meaning) → IsNoSlot m → (m ≡ text_timestamp → ⊥) → m ≡ unfit
no_slot (slot_of s) h n = absurd h
no_slot text_timestamp h n = absurd (n refl)
no_slot unfit h n = refl

-- a value that means no slot, where there is no text under a timestamp, doesn't fit
pub some_unfit : (r : Layer → Meaning) (vs : List Json) → (Has text_timestamp r vs → ⊥) → HasNoSlot r vs → Has unfit r vs
some_unfit r vs n h = (h.0, h.1, h.2, h.3, no_slot (means r h.1) h.4 (λ e. n (h.0, h.1, h.2, h.3, e)))

pub overflows : (t : DataType) (vs : List Json) → names_twice t ≡ false → has_reading t ≡ true → IsFault t vs Overflow → (Has text_timestamp (reading t) vs → ⊥) → IsRefusal t vs Overflow
overflows t vs d r (inl h) n = absurd cc
overflows t vs d r (inr (inl h)) n = absurd (is_not h.0)
  where
    is_not : Overflow ≡ NotYetImplemented reason.TextTimestamp → ⊥
    is_not e = absurd cc
overflows t vs d r (inr (inr h)) n = (d, r, n, elim h.1 [ inl a ↦ inl (some_unfit (reading t) vs n a) | inr b ↦ inr b ])

pub texts : (t : DataType) (vs : List Json) → names_twice t ≡ false → has_reading t ≡ true → Has text_timestamp (reading t) vs → IsRefusal t vs (NotYetImplemented reason.TextTimestamp)
texts t vs d r h = (d, r, h)

-- another fault is the answer as it is
pub others : (t : DataType) (vs : List Json) (e : Error) → names_twice t ≡ false → has_reading t ≡ true → IsFault t vs e → (e ≡ Overflow → ⊥) → IsRefusal t vs e
others t vs e d r (inl h) n = subst (IsRefusal t vs) (sym h) tt
others t vs e d r (inr (inl h)) n = subst (IsRefusal t vs) (sym h.0) (d, r, h.1)
others t vs e d r (inr (inr h)) n = absurd (n h.0)

-- ---- lists

module _ (items : List Json) (t : DataType) (f : Field) (r : Result Array Error) (k : (t ≡ types.List f) ⊎ (t ≡ types.LargeList f)) where
  pub listed_column : OnOk r (names_twice f.data_type ≡ false) → OnOk r (has_reading f.data_type ≡ true) → IfOk r (λ a. array_type a ≡ f.data_type) → IfOk r (λ a. AreSlotsOf (reading f.data_type) items (array_slots a)) → OnOk r (TooMany f.data_type items → ⊥)
      → IfOk r (λ a. IsColumnOf (array items) t (array_type a) (array_slots a))
  listed_column d o h s m = all r d o h s m
    where
      all : (r : Result Array Error) → OnOk r (names_twice f.data_type ≡ false) → OnOk r (has_reading f.data_type ≡ true) → IfOk r (λ a. array_type a ≡ f.data_type) → IfOk r (λ a. AreSlotsOf (reading f.data_type) items (array_slots a)) → OnOk r (TooMany f.data_type items → ⊥)
          → IfOk r (λ a. IsColumnOf (array items) t (array_type a) (array_slots a))
      all (Ok a) d o h s m = (items, f, (refl, k), d, o, h, s, m)
      all (Err e) d o h s m = tt

  pub listed_refusal : IfErr r (IsRefusal f.data_type items) → IfErr r (IsListRefusal (array items) t)
  listed_refusal h = IfErr-weaker r (IsRefusal f.data_type items) (IsListRefusal (array items) t) (λ e p. inr (items, f, (refl, k), p)) h

pub same_column : (json : Json) (items : List Json) (t : DataType) (r : Result Array Error) → json ≡ variant.Array items → IfOk r (λ a. IsColumnOf (array items) t (array_type a) (array_slots a)) → IfOk r (λ a. IsColumnOf json t (array_type a) (array_slots a))
same_column json items t r e h = subst (λ z. IfOk r (λ a. IsColumnOf z t (array_type a) (array_slots a))) (sym e) h
