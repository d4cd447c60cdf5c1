-- Which slots values mean, and when a column of them is refused.
use Rattle.std.specs.Prelude.{◌≡◌, ◌⊎◌, ◌++◌, ◌∷◌, [], ℕ, ◌+◌, ◌<◌, List, length, map, sum_by}
use Rattle.std.specs.Borrow.{Bor}
use Rattle.std.specs.List.{Any}
use Rattle.arrow_core.specs.declared.error.Error.{Error}
use Rattle.arrow_core.specs.declared.error.Error.TheVariants.{NotYetImplemented, Overflow, OutOfMemory}
use Rattle.arrow_core.specs.declared.error.Reason.TheVariants.{TextTimestamp}
use Rattle.arrow_core.specs.declared.slot.Slot.{Slot}
use Rattle.arrow_core.specs.declared.slot.Slot.TheVariants as slot
use Rattle.json_tree.specs.Tree.{Json}
use Rattle.json_tree.specs.declared.value.Value.{out-Value}
use Rattle.json_flat.specs.Meaning.{Meaning, slot_of, text_timestamp, unfit, Layer}

-- the values that are lent
abbrev pub lent : List (Bor Json) → List Json
lent values = map (λ v. v.now) values

-- what a value means under a reading
abbrev pub means : (Layer → Meaning) → Json → Meaning
means reading value = reading (out-Value value)

-- a slot for each value, which it means
abbrev pub AreSlotsOf : (Layer → Meaning) → List Json → List Slot → Type 0
AreSlotsOf reading values slots = map (means reading) values ≡ map slot_of slots

-- a value means this
abbrev pub Has : Meaning → (Layer → Meaning) → List Json → Type 0
Has meaning reading values = Any (λ value. means reading value ≡ meaning) values

-- a text under a timestamp, or a value that doesn't fit
abbrev pub IsNoSlot : Meaning → Type 0
IsNoSlot (slot_of s) = ⊥
IsNoSlot _ = Unit {0}

-- a value means no slot
abbrev pub HasNoSlot : (Layer → Meaning) → List Json → Type 0
HasNoSlot reading values = Any (λ value. IsNoSlot (means reading value)) values

-- how many bytes a string or a binary value has
abbrev pub content_size : Slot → ℕ
content_size (slot.String bytes) = length bytes
content_size (slot.Binary bytes) = length bytes
content_size _ = 0

abbrev pub size_of : Meaning → ℕ
size_of (slot_of s) = content_size s
size_of text_timestamp = 0
size_of unfit = 0

abbrev pub total_size : (Layer → Meaning) → List Json → ℕ
total_size reading values = sum_by (λ value. size_of (means reading value)) values

-- Why there is no column: out of memory; a text under a timestamp; or a value that means no slot, or more than a column can count.
abbrev pub IsColumnFault : (Layer → Meaning) → Type 0 → List Json → Error → Type 0
IsColumnFault reading too_many values e =
    (e ≡ OutOfMemory)
    ⊎ (((e ≡ NotYetImplemented TextTimestamp) × Has text_timestamp reading values)
    ⊎ ((e ≡ Overflow) × (HasNoSlot reading values ⊎ too_many)))

-- the bytes of strings, or of binary values, are more together than a column can count
abbrev pub IsTooLong : ℕ → (Layer → Meaning) → List Json → Type 0
IsTooLong greatest reading values = greatest < total_size reading values

-- ---- one value. Contracts of private functions alone cite what follows.

-- a slot was pushed, which the value means
abbrev pub Pushes : (Layer → Meaning) → Json → List Slot → List Slot → Type 0
Pushes reading value old new = (s : Slot) × (means reading value ≡ slot_of s) × (new ≡ old ++ s ∷ [])

-- why no slot was pushed
abbrev pub IsPushFault : (Layer → Meaning) → Json → Error → Type 0
IsPushFault reading value e =
    (e ≡ OutOfMemory)
    ⊎ (((e ≡ NotYetImplemented TextTimestamp) × (means reading value ≡ text_timestamp))
    ⊎ ((e ≡ Overflow) × (means reading value ≡ unfit)))

-- the same of a string or of bytes
abbrev pub IsTextFault : ℕ → ℕ → (Layer → Meaning) → Json → Error → Type 0
IsTextFault greatest before reading value e = (e ≡ OutOfMemory) ⊎ ((e ≡ Overflow) × (greatest < before + size_of (means reading value)))
