-- Columns of dictionaries, by their keys and values.
use Rattle.std.proofs.Common.{◌≡◌, ◌∙◌, ◌⊎◌, inl, inr, List, [], ◌∷◌, length, map, sym, subst, Result, Ok, Err, IfOk, IfErr}
use Rattle.std.proofs.lemmas.List.Elements.{All-get_or}
use Rattle.arrow_array.specs.Arrays.{array_slots, array_type, dictionaries_of}
use Rattle.arrow_array.specs.declared.array.Array.{Array}
use Rattle.arrow_array.specs.declared.keys.Keys.{Keys}
use Rattle.arrow_array.specs.Dictionaries.{DictionaryFits, IsDictionaryOf, IsKeyInto, keys_slots, keys_type, looked_up}
use Rattle.arrow_core.specs.declared.error.Error.{Error}
use Rattle.arrow_dictionaries.specs.Encoding.{EncodesSlots, FirstSlots, HasFirstValues, HasTooManyDistinct, IsEncodingFault}
use Rattle.arrow_core.specs.declared.slot.Slot.{Slot}
use Rattle.arrow_core.specs.declared.slot.Slot.TheVariants as slot
use Rattle.arrow_core.specs.declared.types.DataType.{DataType}
use Rattle.arrow_core.specs.declared.types.IntegerType.{IntegerType}
use Rattle.json_tree.specs.Tree.{Json}
use Rattle.json_flat.specs.Meaning.{Layer, Meaning}
use Rattle.json_flat.specs.Columns.{AreSlotsOf, IsColumnFault}
use Rattle.json_columns.specs.Dictionaries.{AreEncoded, AreTooMany}
use Rattle.json_flat.specs.Reading.{reading}
use Rattle.json_columns.proofs.FirstValues.{one_dictionary}

-- ---- keys and values of an array that was read

pub encoded : {A B : Type 0} (r : Layer → Meaning) (vs : List Json) (slots : List Slot) (view : A → List Slot × List Slot) (a : Result A B) → AreSlotsOf r vs slots → IfOk a (λ p. EncodesSlots slots (view p).0 (view p).1)
    → IfOk a (λ p. AreEncoded r vs (view p).0 (view p).1)
encoded r vs slots view (Ok p) h e = (slots, h, e)
encoded r vs slots view (Err x) h e = tt

-- it was refused
pub read_fault : (r : Layer → Meaning) (key : IntegerType) (long : List Slot → Type 0) (all : Type 0) (vs : List Json) (e : Error) → IsColumnFault r all vs e → IsColumnFault r (AreTooMany r key long all vs) vs e
read_fault r key long all vs e (inl o) = inl o
read_fault r key long all vs e (inr (inl o)) = inr (inl o)
read_fault r key long all vs e (inr (inr o)) = inr (inr (o.0, elim o.1 [ inl n ↦ inl n | inr b ↦ inr (inr b) ]))

-- or its slots were
one_fault : (r : Layer → Meaning) (key : IntegerType) (long : List Slot → Type 0) (all : Type 0) (vs : List Json) (slots : List Slot) (e : Error) → AreSlotsOf r vs slots → IsEncodingFault (HasTooManyDistinct key slots ⊎ long slots) e
    → IsColumnFault r (AreTooMany r key long all vs) vs e
one_fault r key long all vs slots e h (inl o) = inl o
one_fault r key long all vs slots e h (inr o) = inr (inr (o.0, inr (inl (slots, h, o.1))))

pub long_fault : {A : Type 0} (r : Layer → Meaning) (key : IntegerType) (long : List Slot → Type 0) (all : Type 0) (vs : List Json) (slots : List Slot) (a : Result A Error) → AreSlotsOf r vs slots
    → IfErr a (IsEncodingFault (HasTooManyDistinct key slots ⊎ long slots)) → IfErr a (IsColumnFault r (AreTooMany r key long all vs) vs)
long_fault r key long all vs slots (Ok x) h f = tt
long_fault r key long all vs slots (Err e) h f = one_fault r key long all vs slots e h f

or_long : (a b : Type 0) (e : Error) → IsEncodingFault a e → IsEncodingFault (a ⊎ b) e
or_long a b e (inl o) = inl o
or_long a b e (inr o) = inr (o.0, inl o.1)

pub many_faults : {A : Type 0} (r : Layer → Meaning) (key : IntegerType) (long : List Slot → Type 0) (all : Type 0) (vs : List Json) (slots : List Slot) (a : Result A Error) → AreSlotsOf r vs slots
    → IfErr a (IsEncodingFault (HasTooManyDistinct key slots)) → IfErr a (IsColumnFault r (AreTooMany r key long all vs) vs)
many_faults r key long all vs slots (Ok x) h f = tt
many_faults r key long all vs slots (Err e) h f = one_fault r key long all vs slots e h (or_long (HasTooManyDistinct key slots) (long slots) e f)

pub typed : {A : Type 0} (a : Result A Error) (view : A → DataType) (t u : DataType) → t ≡ u → IfOk a (λ x. view x ≡ t) → IfOk a (λ x. view x ≡ u)
typed (Ok x) view t u e h = h ∙ e
typed (Err x) view t u e h = tt

-- ---- the array of keys and values

module _ (key : IntegerType) (t d : DataType) (vs : List Json) (keys : Keys) (column : Array) (key_is : keys_type keys ≡ key) (type_is : array_type column ≡ t) (h : AreEncoded (reading t) vs (keys_slots keys) (array_slots column)) where
  pub fit : IsDictionaryOf key d t → DictionaryFits d (keys_type keys) (keys_slots keys) (array_type column) (length (array_slots column))
  fit k = rw (key_is, type_is) (record { kind = k; keys_fit = λ i l. All-get_or (IsKeyInto (length (array_slots column))) (keys_slots keys) i slot.Null l h.2.within })

  pub slots : (r : Result Array Error) → IfOk r (λ a. array_slots a ≡ map (looked_up (array_slots column)) (keys_slots keys)) → IfOk r (λ a. AreSlotsOf (reading t) vs (array_slots a))
  slots (Ok a) e = subst (AreSlotsOf (reading t) vs) (sym (e ∙ h.2.looks_up)) h.1
  slots (Err x) e = tt

  pub first_values : (r : Result Array Error) → IfOk r (λ a. dictionaries_of a ≡ (map (looked_up (array_slots column)) (keys_slots keys), array_slots column) ∷ []) → IfOk r HasFirstValues
  first_values r e = one_dictionary r (map (looked_up (array_slots column)) (keys_slots keys)) (array_slots column) (subst (λ s. FirstSlots s (array_slots column)) (sym h.2.looks_up) h.2.first) e
