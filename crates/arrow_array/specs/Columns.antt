-- What contracts see of an array and of a chunk.
use Rattle.std.specs.Prelude.{ℕ, ℤ, List, refl}
use Rattle.std.specs.Coded.{Coded, code_by, coded×, coded_list, coded_ℕ, coded_ℤ}
use Rattle.arrow_core.specs.declared.slot.Slot.{Slot}
use Rattle.arrow_core.specs.declared.types.DataType.{DataType}
use Rattle.arrow_core.specs.contracts.types.DataType as the_types
use Rattle.arrow_core.specs.contracts.slot.Slot as the_slots

-- an array: its data type and its slots
pub record Column : Type 0 where
  pub data_type : DataType
  pub slots : List Slot

abbrev pub column_code : Coded Column
column_code = code_by (DataType × List Slot) (coded× the_types.the_row.coded (coded_list the_slots.the_row.coded)) (λ c. (c.data_type, c.slots)) (λ p. record { data_type = p.0; slots = p.1 }) (λ _. refl)

abbrev pub dictionaries_code : Coded (List (List Slot × List Slot))
dictionaries_code = coded_list (coded× (coded_list the_slots.the_row.coded) (coded_list the_slots.the_row.coded))

-- an array of structs or of fixed-size lists: besides, the dictionaries beneath it, of each its slots and the slots of its values
pub record NestedColumn : Type 0 where
  pub data_type : DataType
  pub slots : List Slot
  pub dictionaries : List (List Slot × List Slot)

abbrev pub nested_column_code : Coded NestedColumn
nested_column_code = code_by (DataType × (List Slot × List (List Slot × List Slot))) (coded× the_types.the_row.coded (coded× (coded_list the_slots.the_row.coded) dictionaries_code)) (λ c. (c.data_type, (c.slots, c.dictionaries))) (λ p. record { data_type = p.0; slots = p.1.0; dictionaries = p.1.1 }) (λ _. refl)

-- an array of strings or of binary values: besides, the offsets of its slots, and the bytes that they point into
pub record ContentColumn : Type 0 where
  pub data_type : DataType
  pub slots : List Slot
  pub offsets : List ℤ
  pub bytes : List ℕ

abbrev pub content_column_code : Coded ContentColumn
content_column_code = code_by (DataType × (List Slot × (List ℤ × List ℕ))) (coded× the_types.the_row.coded (coded× (coded_list the_slots.the_row.coded) (coded× (coded_list coded_ℤ) (coded_list coded_ℕ)))) (λ c. (c.data_type, (c.slots, (c.offsets, c.bytes)))) (λ p. record { data_type = p.0; slots = p.1.0; offsets = p.1.1.0; bytes = p.1.1.1 }) (λ _. refl)
