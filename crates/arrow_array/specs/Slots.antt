-- The slots that buffers and a validity stand for (Arrow columnar format, "Physical Memory Layout").
use Rattle.std.specs.Prelude.{◌≡◌, ℕ, ◌+◌, ◌*◌, Bool, true, false, cond, ℤ, List, map, take, drop, slice_index_or, Option, Some, None, IsTrue, All}
use Rattle.std.specs.List.{range_with_len}
use Rattle.arrow_core.specs.declared.slot.Slot.{Slot}
use Rattle.arrow_core.specs.declared.slot.Slot.TheVariants as slot
use Rattle.arrow_array.specs.Bits.{Packed}
use Rattle.arrow_array.specs.Offsets.{part}

-- slot i of a list of slots
abbrev pub slot_at : List Slot → ℕ → Slot
slot_at slots i = slice_index_or slots i slot.Null

-- whether a slot holds anything, which only a null doesn't
abbrev pub is_held : Slot → Bool
is_held slot.Null = false
is_held _ = true

-- whether a validity, if there is one, says that slot i isn't null
abbrev pub valid_at : Option Packed → ℕ → Bool
valid_at None i = true
valid_at (Some validity) i = slice_index_or validity.booleans i false

-- what a validity, if there is one, tells of the slots: without one, each is held
abbrev pub TellsHeld : Option Packed → List Slot → Type 0
TellsHeld None slots = All (λ x. IsTrue (is_held x)) slots
TellsHeld (Some validity) slots = validity.booleans ≡ map is_held slots

-- a slot, which is null where the validity says so
abbrev pub shown : Option Packed → ℕ → Slot → Slot
shown None i x = x
shown (Some validity) i x = cond (slice_index_or validity.booleans i false) x slot.Null

-- n slots: slot i is what f makes at index start + i, or null
abbrev pub slots_of : (ℕ → Slot) → Option Packed → ℕ → ℕ → List Slot
slots_of f validity start n = map (λ i. shown validity i (f (start + i))) (range_with_len 0 n)

-- a null, at each index
abbrev pub null_at : ℕ → Slot
null_at k = slot.Null

-- the boolean at index k
abbrev pub boolean_at : List Bool → ℕ → Slot
boolean_at booleans k = slot.Boolean (slice_index_or booleans k false)

-- the slot of the value at index k, where native makes a slot of a value
abbrev pub native_at : {X : Type 0} → (X → Slot) → List X → ℕ → Slot
native_at native xs k = slice_index_or (map native xs) k slot.Null

-- the string between offset k and the next
abbrev pub utf8_at : List ℤ → List ℕ → ℕ → Slot
utf8_at offsets bytes k = slot.String (part offsets bytes k)

-- the bytes between offset k and the next
abbrev pub binary_at : List ℤ → List ℕ → ℕ → Slot
binary_at offsets bytes k = slot.Binary (part offsets bytes k)

-- so many bytes from index k times as many
abbrev pub fixed_at : ℕ → List ℕ → ℕ → Slot
fixed_at width bytes k = slot.Binary (take width (drop (k * width) bytes))
