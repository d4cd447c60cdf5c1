-- Dictionary encoding (Arrow columnar format, "Dictionary-encoded Layout"): each distinct slot once, and for each slot its index among these.
use Rattle.std.specs.Prelude.{◌≡◌, ◌⊎◌, ℕ, ◌<◌, true, List, [], ◌∷◌, ◌++◌, length, map, sum_by}
use Rattle.std.specs.List.{All, Contains}
use Rattle.arrow_array.specs.declared.array.Array.{Array}
use Rattle.arrow_array.specs.Arrays.{dictionaries_of, all_dictionaries}
use Rattle.arrow_array.specs.Dictionaries.{IsKeyInto, looked_up}
use Rattle.arrow_array.specs.Slots.{is_held}
use Rattle.arrow_core.specs.declared.error.Error.{Error}
use Rattle.arrow_core.specs.declared.error.Error.TheVariants.{OutOfMemory, Overflow}
use Rattle.arrow_core.specs.declared.slot.Slot.{Slot}
use Rattle.arrow_core.specs.declared.slot.Slot.TheVariants as slot
use Rattle.arrow_core.specs.declared.types.IntegerType.{IntegerType}
use Rattle.arrow_core.specs.declared.types.IntegerType.TheVariants as integer

-- The distinct slots that aren't null, in order of first appearance. Of one slot more: a null adds nothing, nor does a slot that is there, and
-- any other goes last.
pub data FirstSlots : List Slot → List Slot → Type 0 where
  none : FirstSlots [] []
  null : (slots firsts : List Slot) → FirstSlots slots firsts → FirstSlots (slots ++ slot.Null ∷ []) firsts
  again : (slots firsts : List Slot) (s : Slot) → FirstSlots slots firsts → Contains firsts s → FirstSlots (slots ++ s ∷ []) firsts
  new : (slots firsts : List Slot) (s : Slot) → FirstSlots slots firsts → is_held s ≡ true → (Contains firsts s → ⊥) → FirstSlots (slots ++ s ∷ []) (firsts ++ s ∷ [])

-- the values of each dictionary of an array, at every depth, are its distinct slots but null, in order of first appearance
abbrev pub HasFirstValues : Array → Type 0
HasFirstValues a = All (λ d. FirstSlots d.0 d.1) (dictionaries_of a)

-- the same of several arrays
abbrev pub HaveFirstValues : List Array → Type 0
HaveFirstValues arrays = All (λ d. FirstSlots d.0 d.1) (all_dictionaries arrays)

-- keys and values that stand for slots: the values are the distinct slots, and each slot is the value at its key, or null where the key is null
pub record EncodesSlots (slots keys items : List Slot) : Type 0 where
  pub looks_up : map (looked_up items) keys ≡ slots
  pub first : FirstSlots slots items
  pub within : All (IsKeyInto (length items)) keys

-- how many values keys of a type number, from 0 on
abbrev pub key_count : IntegerType → ℕ
key_count integer.Int8 = 128
key_count integer.Int16 = 32768
key_count integer.Int32 = 2147483648
key_count integer.Int64 = 9223372036854775808
key_count integer.UInt8 = 256
key_count integer.UInt16 = 65536
key_count integer.UInt32 = 4294967296
key_count integer.UInt64 = 18446744073709551616

-- there are more distinct slots than keys of the type number
abbrev pub HasTooManyDistinct : IntegerType → List Slot → Type 0
HasTooManyDistinct key slots = (items : List Slot) × FirstSlots slots items × (key_count key < length items)

-- how many bytes a string has
abbrev pub string_size : Slot → ℕ
string_size (slot.String bytes) = length bytes
string_size _ = 0

-- the distinct strings have more bytes together than the greatest offset
abbrev pub HasTooLongStrings : ℕ → List Slot → Type 0
HasTooLongStrings greatest slots = (items : List Slot) × FirstSlots slots items × (greatest < sum_by string_size items)

-- why slots aren't encoded: out of memory; or more than keys or offsets count
abbrev pub IsEncodingFault : Type 0 → Error → Type 0
IsEncodingFault too_many e = (e ≡ OutOfMemory) ⊎ ((e ≡ Overflow) × too_many)
