-- Keys, which are indices into an array of values (Arrow columnar format, "Dictionary-encoded Layout").
use Rattle.std.specs.Prelude.{◌≡◌, ℕ, ◌<◌, Bool, pos, List, length, refl}
use Rattle.std.specs.Coded.{Coded, code_by, coded×, coded_list}
use Rattle.arrow_core.specs.declared.slot.Slot.{Slot}
use Rattle.arrow_core.specs.declared.slot.Slot.TheVariants as slot
use Rattle.arrow_core.specs.declared.types.DataType.{DataType}
use Rattle.arrow_core.specs.declared.types.DataType.TheVariants as types
use Rattle.arrow_core.specs.declared.types.IntegerType.{IntegerType}
use Rattle.arrow_core.specs.declared.types.IntegerType.TheVariants as integer
use Rattle.arrow_core.specs.contracts.types.DataType as the_types
use Rattle.arrow_core.specs.contracts.slot.Slot as the_slots
use Rattle.arrow_array.specs.declared.keys.Keys.{Keys}
use Rattle.arrow_array.specs.declared.keys.Keys.TheVariants.{Int8, Int16, Int32, Int64, UInt8, UInt16, UInt32, UInt64}
use Rattle.arrow_array.specs.Slots.{slot_at}

-- the integer type of keys
abbrev pub keys_type : Keys → IntegerType
keys_type (Int8 a) = integer.Int8
keys_type (Int16 a) = integer.Int16
keys_type (Int32 a) = integer.Int32
keys_type (Int64 a) = integer.Int64
keys_type (UInt8 a) = integer.UInt8
keys_type (UInt16 a) = integer.UInt16
keys_type (UInt32 a) = integer.UInt32
keys_type (UInt64 a) = integer.UInt64

-- the keys as slots
abbrev pub keys_slots : Keys → List Slot
keys_slots (Int8 a) = a.slots
keys_slots (Int16 a) = a.slots
keys_slots (Int32 a) = a.slots
keys_slots (Int64 a) = a.slots
keys_slots (UInt8 a) = a.slots
keys_slots (UInt16 a) = a.slots
keys_slots (UInt32 a) = a.slots
keys_slots (UInt64 a) = a.slots

-- an array of a dictionary: besides its type and its slots, its keys as slots, and the slots of its values
pub record DictionaryColumn : Type 0 where
  pub data_type : DataType
  pub slots : List Slot
  pub keys : List Slot
  pub items : List Slot

abbrev pub dictionary_column_code : Coded DictionaryColumn
dictionary_column_code = code_by (DataType × (List Slot × (List Slot × List Slot))) (coded× the_types.the_row.coded (coded× (coded_list the_slots.the_row.coded) (coded× (coded_list the_slots.the_row.coded) (coded_list the_slots.the_row.coded)))) (λ c. (c.data_type, (c.slots, (c.keys, c.items)))) (λ p. record { data_type = p.0; slots = p.1.0; keys = p.1.1.0; items = p.1.1.1 }) (λ _. refl)

-- the slot of the values that a key names, and null where there is no key
abbrev pub looked_up : List Slot → Slot → Slot
looked_up items (slot.Integer (pos k)) = slot_at items k
looked_up items _ = slot.Null

-- a key is null, or an index into n values
abbrev pub IsKeyInto : ℕ → Slot → Type 0
IsKeyInto n slot.Null = Unit {0}
IsKeyInto n (slot.Integer (pos k)) = k < n
IsKeyInto n _ = ⊥

-- a key names no index
abbrev pub IsNoIndex : Slot → Type 0
IsNoIndex (slot.Integer (pos k)) = ⊥
IsNoIndex _ = Unit {0}

-- the type of a dictionary of such keys over such values
abbrev pub IsDictionaryOf : IntegerType → DataType → DataType → Type 0
IsDictionaryOf key data_type value = (is_sorted : Bool) × (data_type ≡ types.Dictionary key value is_sorted)

-- parts of an array of a dictionary: keys of this type and these slots into n values of this type
pub record DictionaryFits (data_type : DataType) (key : IntegerType) (keys : List Slot) (value : DataType) (n : ℕ) : Type 0 where
  pub kind : IsDictionaryOf key data_type value
  pub keys_fit : (i : ℕ) → i < length keys → IsKeyInto n (slot_at keys i)
