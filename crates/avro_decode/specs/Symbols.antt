-- The dictionaries of a block's columns: the values of each are the symbols of its enum, in the schema's order.
use Rattle.std.specs.Prelude.{List, [], ◌∷◌, ◌++◌, map, Bool}
use Rattle.arrow_core.specs.declared.slot.Slot.{Slot}
use Rattle.arrow_core.specs.declared.slot.Slot.TheVariants as slot
use Rattle.arrow_array.specs.Arrays.{dictionaries_of}
use Rattle.arrow_array.specs.declared.array.Array.{Array}
use Rattle.avro_schema.specs.declared.schema.AvroField.{AvroField}
use Rattle.avro_schema.specs.declared.schema.Schema.{Schema, Enum, Record, Array', Union', Row_of-Schema, end_of-Schema, more_of-Schema}
use Rattle.avro_schema.specs.declared.schema.Record.{Record as TheRecord, Record', Row_of-AvroField, end_of-AvroField, more_of-AvroField}
use Rattle.avro_schema.specs.ValidBlock.{kept}

-- the symbols of each enum of a schema, at every depth, in the order of the fields (Avro 1.11, "Enums")
abbrev mutual
  pub symbols_in : Schema → List (List Slot)
  symbols_in (Enum e) = map slot.String e.symbols ∷ []
  symbols_in (Record r) = symbols_in_record r
  symbols_in (Array' shape item) = symbols_in_item item
  symbols_in (Union' shape members) = symbols_in_members members
  symbols_in _ = []

  pub symbols_in_record : TheRecord → List (List Slot)
  symbols_in_record (Record' name namespace doc shape fields) = symbols_in_fields fields

  pub symbols_in_fields : {m : _} → Row_of-AvroField m → List (List Slot)
  symbols_in_fields end_of-AvroField = []
  symbols_in_fields (more_of-AvroField name doc s rest) = symbols_in s ++ symbols_in_fields rest

  pub symbols_in_item : {m : _} → Row_of-Schema m → List (List Slot)
  symbols_in_item end_of-Schema = []
  symbols_in_item (more_of-Schema item rest) = symbols_in item

  pub symbols_in_members : {m : _} → Row_of-Schema m → List (List Slot)
  symbols_in_members end_of-Schema = []
  symbols_in_members (more_of-Schema s rest) = symbols_in s ++ symbols_in_members rest

-- those of each kept field
abbrev pub kept_symbols : List AvroField → List Bool → List (List (List Slot))
kept_symbols fields projection = map (λ f. symbols_in f.schema) (kept fields projection)

-- the values of each dictionary of an array
abbrev pub dictionary_values : Array → List (List Slot)
dictionary_values a = map (λ d. d.1) (dictionaries_of a)
