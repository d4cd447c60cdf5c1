-- What contracts see of a builder of a dictionary (Arrow columnar format, "Dictionary-encoded Layout").
use Rattle.std.specs.Prelude.{◌≡◌, ℕ, false, List, [], length, refl}
use Rattle.std.specs.Coded.{Coded, code_by, coded×, coded_list, coded_ℕ}
use Rattle.arrow_core.specs.declared.slot.Slot.{Slot}
use Rattle.arrow_core.specs.declared.types.DataType.{DataType}
use Rattle.arrow_core.specs.declared.types.DataType.TheVariants as types
use Rattle.arrow_core.specs.declared.types.IntegerType.TheVariants as integer
use Rattle.arrow_core.specs.contracts.types.DataType as the_types
use Rattle.arrow_core.specs.contracts.slot.Slot as the_slots
use Rattle.arrow_flat.specs.Builders.{no_limit}
use Rattle.arrow_flat.specs.Nodes.{Node}

-- besides its data type, its slots, and how many more fit before memory is asked for, the slots of its values
pub record DictionaryBuilder : Type 0 where
  pub data_type : DataType
  pub slots : List Slot
  pub spare : ℕ
  pub items : List Slot

abbrev pub dictionary_builder_code : Coded DictionaryBuilder
dictionary_builder_code =
    code_by (DataType × (List Slot × (ℕ × List Slot))) (coded× the_types.the_row.coded (coded× (coded_list the_slots.the_row.coded) (coded× coded_ℕ (coded_list the_slots.the_row.coded))))
    (λ b. (b.data_type, (b.slots, (b.spare, b.items)))) (λ p. record { data_type = p.0; slots = p.1.0; spare = p.1.1.0; items = p.1.1.1 }) (λ _. refl)

-- the node of a dictionary: its slots are its keys
abbrev pub dictionary_node : DictionaryBuilder → Node
dictionary_node b = record { slots = length b.slots; spare = b.spare; bytes = 0; byte_spare = no_limit }

-- a dictionary of keys of 32 bits over strings with offsets of 32 bits
abbrev pub utf8_dictionary_type : DataType
utf8_dictionary_type = types.Dictionary integer.Int32 types.Utf8 false

-- an empty builder over these values
abbrev pub IsNewDictionary : List Slot → DictionaryBuilder → Type 0
IsNewDictionary items b = (b.data_type ≡ utf8_dictionary_type) × (b.slots ≡ []) × (b.items ≡ items)
