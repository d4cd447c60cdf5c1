-- Lists of neighbouring slots of a child (Arrow columnar format, "Variable-size List Layout").
use Rattle.std.specs.Prelude.{◌≡◌, ℕ, ◌-◌, ℤ, Bool, true, false, List, length, Option, refl}
use Rattle.std.specs.Coded.{Coded, code_by, coded×, coded_list, coded_ℤ}
use Rattle.arrow_core.specs.declared.slot.Slot.{Slot}
use Rattle.arrow_core.specs.declared.slot.Slot.TheVariants as slot
use Rattle.arrow_core.specs.declared.types.DataType.{DataType}
use Rattle.arrow_core.specs.declared.types.DataType.TheVariants as types
use Rattle.arrow_core.specs.declared.types.Field.{Field}
use Rattle.arrow_core.specs.contracts.types.DataType as the_types
use Rattle.arrow_core.specs.contracts.slot.Slot as the_slots
use Rattle.arrow_array.specs.Bits.{Packed}
use Rattle.arrow_array.specs.Columns.{dictionaries_code}
use Rattle.arrow_array.specs.Offsets.{part, IsOffsets}
use Rattle.arrow_array.specs.Parts.{IsValidityOf}

-- an array of lists: besides its type and its slots, the offsets of its slots, the slots of the child that they point into, and the
-- dictionaries beneath it, of each its slots and the slots of its values
pub record ListColumn : Type 0 where
  pub data_type : DataType
  pub slots : List Slot
  pub offsets : List ℤ
  pub items : List Slot
  pub dictionaries : List (List Slot × List Slot)

abbrev pub list_column_code : Coded ListColumn
list_column_code = code_by (DataType × (List Slot × (List ℤ × (List Slot × List (List Slot × List Slot))))) (coded× the_types.the_row.coded (coded× (coded_list the_slots.the_row.coded) (coded× (coded_list coded_ℤ) (coded× (coded_list the_slots.the_row.coded) dictionaries_code)))) (λ c. (c.data_type, (c.slots, (c.offsets, (c.items, c.dictionaries))))) (λ p. record { data_type = p.0; slots = p.1.0; offsets = p.1.1.0; items = p.1.1.1.0; dictionaries = p.1.1.1.1 }) (λ _. refl)

-- the list of the child's slots between offset k and the next
abbrev pub list_at : List ℤ → List Slot → ℕ → Slot
list_at offsets items k = slot.List (part offsets items k)

-- the type of lists of a field, with offsets of 32 bits, or of 64
abbrev pub list_type : Bool → Field → DataType
list_type false field = types.List field
list_type true field = types.LargeList field

-- the type of lists whose items are of this type
abbrev pub IsListOf : Bool → DataType → DataType → Type 0
IsListOf is_large data_type item = (field : Field) × (data_type ≡ list_type is_large field) × (field.data_type ≡ item)

-- parts of an array of lists: offsets into a child of this type and these slots
pub record ListFits (is_large : Bool) (data_type item : DataType) (offsets : List ℤ) (items : List Slot) (validity : Option Packed) : Type 0 where
  pub kind : IsListOf is_large data_type item
  pub offsets_fit : IsOffsets offsets (length items)
  pub validity_fits : IsValidityOf validity (length offsets - 1)
