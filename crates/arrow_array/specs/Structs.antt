-- Structs of the slots of several children (Arrow columnar format, "Struct Layout").
use Rattle.std.specs.Prelude.{◌≡◌, ℕ, ◌<◌, ◌≤◌, List, [], ◌∷◌, length, map, take, drop, Option}
use Rattle.std.specs.List.{All, AllZip}
use Rattle.arrow_core.specs.declared.slot.Slot.{Slot}
use Rattle.arrow_core.specs.declared.slot.Slot.TheVariants as slot
use Rattle.arrow_core.specs.declared.types.DataType.{DataType}
use Rattle.arrow_core.specs.declared.types.DataType.TheVariants as types
use Rattle.arrow_core.specs.declared.types.Field.{Field}
use Rattle.arrow_array.specs.Bits.{Packed}
use Rattle.arrow_array.specs.declared.array.Array.{Array}
use Rattle.arrow_array.specs.Arrays.{array_type, array_slots}
use Rattle.arrow_array.specs.Parts.{IsValidityOf}
use Rattle.arrow_array.specs.Slots.{slot_at}

-- the struct of the children's slots at index k
abbrev pub record_at : List (List Slot) → ℕ → Slot
record_at children k = slot.Struct (map (λ slots. slot_at slots k) children)

-- each child has its field's type, and n slots
abbrev pub AreChildren : ℕ → List Field → List Array → Type 0
AreChildren n = AllZip (λ field child. (field.data_type ≡ array_type child) × (length (array_slots child) ≡ n))

-- the type of structs of the children, which have n slots each
abbrev pub IsStructOf : DataType → List Array → ℕ → Type 0
IsStructOf data_type children n = (fields : List Field) × (data_type ≡ types.Struct fields) × AreChildren n fields children

-- how many slots the first child has
abbrev pub first_len : List Array → ℕ
first_len [] = 0
first_len (child ∷ _) = length (array_slots child)

-- parts of an array of structs: at least one child, and all of the same length
pub record StructFits (data_type : DataType) (children : List Array) (validity : Option Packed) : Type 0 where
  pub filled : 0 < length children
  pub kind : IsStructOf data_type children (first_len children)
  pub validity_fits : IsValidityOf validity (first_len children)

-- the buffers of an array of n structs
pub record StructParts (data_type : DataType) (children : List Array) (n : ℕ) (validity : Option Packed) : Type 0 where
  pub filled : 0 < length children
  pub kind : IsStructOf data_type children n
  pub validity_fits : IsValidityOf validity n

-- the arrays have at least n slots each
abbrev pub HaveSlots : ℕ → List Array → Type 0
HaveSlots n = All (λ array. n ≤ length (array_slots array))

-- arrays of the same types, each with the n slots of the other from index o on
abbrev pub AreCuts : ℕ → ℕ → List Array → List Array → Type 0
AreCuts o n = AllZip (λ array cut. (array_type cut ≡ array_type array) × (array_slots cut ≡ take n (drop o (array_slots array))))
