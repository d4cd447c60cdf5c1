-- Texts under timestamps. Contracts of private functions alone cite this file.
use Rattle.std.specs.Prelude.{ℕ, Bool, true, false, List}
use Rattle.std.specs.List.{list_any}
use Rattle.arrow_core.specs.declared.types.DataType.{DataType, Timestamp}
use Rattle.arrow_core.specs.declared.types.Field.{Field}
use Rattle.json_tree.specs.Keys.{value_of}
use Rattle.json_tree.specs.Tree.{Json, or_null}
use Rattle.json_flat.specs.Meaning.{Layer, Meaning, slot_of, text_timestamp, unfit}
use Rattle.json_flat.specs.Columns.{means}
use Rattle.json_flat.specs.Reading.{reading}

abbrev pub is_text : Meaning → Bool
is_text (slot_of s) = false
is_text text_timestamp = true
is_text unfit = false

-- one of the items is
abbrev pub item_is_text : (Layer → Meaning) → List Json → Bool
item_is_text reading = list_any (λ v. is_text (means reading v))

-- the member of one of the fields is
abbrev pub member_is_text : List Field → List (List ℕ × Json) → Bool
member_is_text fields members = list_any (λ (f : Field). is_text (means (reading f.data_type) (or_null (value_of f.name members)))) fields

abbrev pub IsNoTimestamp : DataType → Type 0
IsNoTimestamp (Timestamp unit timezone) = ⊥
IsNoTimestamp _ = Unit {0}
