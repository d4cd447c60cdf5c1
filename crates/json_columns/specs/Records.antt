-- What `deserialize_records` answers.
use Rattle.std.specs.Prelude.{◌≡◌, ◌⊎◌, ℕ, Bool, true, false, ◌&&◌, not, cond, List, [], ◌∷◌, Option, Some, None}
use Rattle.std.specs.List.{list_all}
use Rattle.std.specs.Option.{is_some}
use Rattle.arrow_array.specs.declared.array.Array.{Array}
use Rattle.arrow_core.specs.declared.error.Error.{Error}
use Rattle.arrow_core.specs.declared.error.Error.TheVariants.{ExternalFormat, InvalidArgumentError, NotYetImplemented, OutOfMemory, Overflow}
use Rattle.arrow_core.specs.declared.error.Reason.{Reason}
use Rattle.arrow_core.specs.declared.error.Reason.TheVariants as reason
use Rattle.arrow_core.specs.declared.types.DataType.{DataType, Row_of-Field, end_of-Field, more_of-Field}
use Rattle.arrow_core.specs.declared.types.DataType as types
use Rattle.arrow_core.specs.declared.types.Field.{Field}
use Rattle.json_tree.specs.Keys.{value_of}
use Rattle.json_tree.specs.Tree.{Json, array}
use Rattle.json_tree.specs.declared.value.Value.{out-Value}
use Rattle.json_tree.specs.declared.value.Value.TheOpen as layer
use Rattle.json_flat.specs.Meaning.{Layer, text_timestamp, unfit}
use Rattle.json_flat.specs.Columns.{Has}
use Rattle.json_columns.specs.Faults.{AreMemberColumns, TooManyFields}
use Rattle.json_columns.specs.Gathered.{field_meanings}
use Rattle.json_columns.specs.Names.{is_named, struct_names_twice}
use Rattle.json_flat.specs.Reading.{has_reading, struct_in}

-- ---- types

abbrev mutual
  -- the type is, or a list in it holds, a LargeList, a Struct or a Dictionary
  pub holds_more : DataType → Bool
  holds_more (types.LargeList' shape item) = true
  holds_more (types.Struct' shape fields) = true
  holds_more (types.Dictionary' key shape value is_sorted) = true
  holds_more (types.List' shape item) = row_holds_more item
  holds_more (types.FixedSizeList' shape item size) = row_holds_more item
  holds_more _ = false

  -- by the one field of a type of lists
  pub row_holds_more : {m : _} → Row_of-Field m → Bool
  row_holds_more end_of-Field = false
  row_holds_more (more_of-Field name t is_nullable metadata rest) = holds_more t

-- members of records are read under the type
abbrev pub is_of_record : DataType → Bool
is_of_record t = has_reading t && not (holds_more t)

abbrev pub are_of_record : List Field → Bool
are_of_record = list_all (λ (f : Field). is_of_record f.data_type)

-- ---- rows

-- each key of the members is the name of a field
abbrev pub are_known : List Field → List (List ℕ × Json) → Bool
are_known fields members = list_all (λ (m : List ℕ × Json). is_named m.0 fields) members

-- the name of each field is a key of the members
abbrev pub are_there : List Field → List (List ℕ × Json) → Bool
are_there fields members = list_all (λ (f : Field). is_some (value_of f.name members)) fields

-- what is wrong with a row, if anything: it is no object; it has a key that no field names; or it lacks a field's key
abbrev pub row_fault : List Field → Layer → Option Reason
row_fault fields (layer.Object object) = cond (are_known fields object.members) (cond (are_there fields object.members) None (Some reason.MissingKey)) (Some reason.UnknownKey)
row_fault fields _ = Some reason.NotAnObject

abbrev pub or_else : Option Reason → Option Reason → Option Reason
or_else None other = other
or_else (Some fault) other = Some fault

-- what is wrong with the first row with which anything is
abbrev pub first_fault : List Field → List Json → Option Reason
first_fault fields [] = None
first_fault fields (row ∷ rows) = or_else (row_fault fields (out-Value row)) (first_fault fields rows)

-- ---- answers

-- neither the fields nor a Struct in them names a field twice, and members are read under the type of each
abbrev pub AreRecordFields : List Field → Type 0
AreRecordFields fields = (struct_names_twice fields ≡ false) × (are_of_record fields ≡ true)

-- The chunk of an array of records: each row is an object of exactly the fields' names, there is a column for each field, of its type, with
-- the slot for each row that the row's member of the field's name means, and nothing in these columns is more than can be counted.
abbrev pub IsTableOf : Json → List Field → List Array → Type 0
IsTableOf json fields columns =
    AreRecordFields fields × ((rows : List Json) × (json ≡ array rows) × (first_fault fields rows ≡ None) × AreMemberColumns fields rows columns × (TooManyFields fields rows → ⊥))

-- Why rows have no columns, the first that applies: a row is faulty; a text stands under a timestamp; a value doesn't fit its type, or there
-- are more items or bytes than can be counted. Out of memory may come in place of any of these.
abbrev pub IsRowsRefusal : List Field → List Json → Error → Type 0
IsRowsRefusal fields rows (ExternalFormat fault) = (first_fault fields rows ≡ Some fault)
IsRowsRefusal fields rows (NotYetImplemented reason.TextTimestamp) = (first_fault fields rows ≡ None) × Has text_timestamp (struct_in (field_meanings fields)) rows
IsRowsRefusal fields rows Overflow =
    (first_fault fields rows ≡ None) × (Has text_timestamp (struct_in (field_meanings fields)) rows → ⊥)
    × (Has unfit (struct_in (field_meanings fields)) rows ⊎ TooManyFields fields rows)
IsRowsRefusal fields rows OutOfMemory = Unit {0}
IsRowsRefusal fields rows _ = ⊥

-- Why members aren't read under the types of fields: they, or a Struct in them, name a field twice; else the type of one has no reading, or
-- holds more than lists. Out of memory may come in place of either.
abbrev pub IsFieldsRefusal : List Field → Error → Type 0
IsFieldsRefusal fields (InvalidArgumentError reason.DuplicateName) = (struct_names_twice fields ≡ true)
IsFieldsRefusal fields (NotYetImplemented reason.NoJsonReading) = (struct_names_twice fields ≡ false) × (are_of_record fields ≡ false)
IsFieldsRefusal fields OutOfMemory = Unit {0}
IsFieldsRefusal fields _ = ⊥

-- Why there is no chunk, the first that applies: the fields are refused; the value is no array; the rows are refused.
abbrev pub IsRecordsRefusal : Json → List Field → Error → Type 0
IsRecordsRefusal json fields e =
    IsFieldsRefusal fields e
    ⊎ (AreRecordFields fields × (
    ((e ≡ ExternalFormat reason.OuterNotArray) × ((rows : List Json) → json ≡ array rows → ⊥))
    ⊎ ((rows : List Json) × (json ≡ array rows) × IsRowsRefusal fields rows e)
    ))
