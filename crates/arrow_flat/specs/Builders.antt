-- What contracts see of a builder.
use Rattle.std.specs.Prelude.{◌≡◌, ℕ, Bool, Option, None, Some, List, [], length, refl}
use Rattle.std.specs.Coded.{Coded, code_by, coded×, coded_list, coded_ℕ}
use Rattle.arrow_core.specs.declared.slot.Slot.{Slot}
use Rattle.arrow_core.specs.declared.slot.Slot.TheVariants as slot
use Rattle.arrow_core.specs.declared.types.DataType.{DataType}
use Rattle.arrow_core.specs.declared.types.DataType.TheVariants as types
use Rattle.arrow_core.specs.declared.types.IntervalUnit.TheVariants as interval
use Rattle.arrow_core.specs.declared.physical.PrimitiveType.{PrimitiveType}
use Rattle.arrow_core.specs.declared.physical.PrimitiveType.TheVariants as primitive
use Rattle.arrow_core.specs.contracts.types.DataType as the_types
use Rattle.arrow_core.specs.contracts.slot.Slot as the_slots
use Rattle.arrow_array.specs.Slots.{slots_of}
use Rattle.arrow_flat.specs.Bits.{mask_of}
use Rattle.arrow_flat.specs.Nodes.{Node}

-- a builder that keeps no content bytes: its data type, its slots, and how many more slots fit before memory is asked for
pub record PlainBuilder : Type 0 where
  pub data_type : DataType
  pub slots : List Slot
  pub spare : ℕ

abbrev pub plain_builder_code : Coded PlainBuilder
plain_builder_code =
    code_by (DataType × (List Slot × ℕ)) (coded× the_types.the_row.coded (coded× (coded_list the_slots.the_row.coded) coded_ℕ))
    (λ b. (b.data_type, (b.slots, b.spare))) (λ p. record { data_type = p.0; slots = p.1.0; spare = p.1.1 }) (λ _. refl)

-- a builder that keeps content bytes: besides, how many there are, and how many more fit before memory is asked for
pub record ContentBuilder : Type 0 where
  pub data_type : DataType
  pub slots : List Slot
  pub spare : ℕ
  pub bytes : ℕ
  pub byte_spare : ℕ

abbrev pub content_builder_code : Coded ContentBuilder
content_builder_code =
    code_by (DataType × (List Slot × (ℕ × (ℕ × ℕ)))) (coded× the_types.the_row.coded (coded× (coded_list the_slots.the_row.coded) (coded× coded_ℕ (coded× coded_ℕ coded_ℕ))))
    (λ b. (b.data_type, (b.slots, (b.spare, (b.bytes, b.byte_spare)))))
    (λ p. record { data_type = p.0; slots = p.1.0; spare = p.1.1.0; bytes = p.1.1.1.0; byte_spare = p.1.1.1.1 }) (λ _. refl)

-- the spare capacity for content bytes of a node that keeps none
abbrev pub no_limit : ℕ
no_limit = 18446744073709551615

abbrev pub plain_node : PlainBuilder → Node
plain_node b = record { slots = length b.slots; spare = b.spare; bytes = 0; byte_spare = no_limit }

abbrev pub content_node : ContentBuilder → Node
content_node b = record { slots = length b.slots; spare = b.spare; bytes = b.bytes; byte_spare = b.byte_spare }

-- as many slots as there are booleans: slot k is what f makes, and null where boolean k is false
abbrev pub slots_where : List Bool → (ℕ → Slot) → List Slot
slots_where booleans f = slots_of f (Some (mask_of booleans)) 0 (length booleans)

-- the slot of a value that may be missing, where native makes a slot of a value
abbrev pub optional_slot : {X : Type 0} → (X → Slot) → Option X → Slot
optional_slot native None = slot.Null
optional_slot native (Some x) = native x

-- the type of a builder of such values, where no other is asked for
abbrev pub plain_type : PrimitiveType → DataType
plain_type primitive.Int8 = types.Int8
plain_type primitive.Int16 = types.Int16
plain_type primitive.Int32 = types.Int32
plain_type primitive.Int64 = types.Int64
plain_type primitive.Int128 = types.Decimal 32 32
plain_type primitive.Int256 = types.Decimal256 32 32
plain_type primitive.UInt8 = types.UInt8
plain_type primitive.UInt16 = types.UInt16
plain_type primitive.UInt32 = types.UInt32
plain_type primitive.UInt64 = types.UInt64
plain_type primitive.Float16 = types.Float16
plain_type primitive.Float32 = types.Float32
plain_type primitive.Float64 = types.Float64
plain_type primitive.DaysMs = types.Interval interval.DayTime
plain_type primitive.MonthDayNano = types.Interval interval.MonthDayNano

-- an empty builder of this type
abbrev pub IsNewPlain : DataType → PlainBuilder → Type 0
IsNewPlain data_type b = (b.data_type ≡ data_type) × (b.slots ≡ [])

abbrev pub IsNewContent : DataType → ContentBuilder → Type 0
IsNewContent data_type b = (b.data_type ≡ data_type) × (b.slots ≡ []) × (b.bytes ≡ 0)
