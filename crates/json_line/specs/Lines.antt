-- The columns that lines of JSON (RFC 8259) are read into.
use Rattle.std.specs.Prelude.{◌≡◌, ◌&&◌, ◌==◌, not, ℕ, Bool, List, length, map}
use Rattle.std.specs.List.{AllZip, list_all}
use Rattle.arrow_array.specs.Arrays.{array_slots, array_type}
use Rattle.arrow_array.specs.declared.array.Array.{Array}
use Rattle.arrow_core.specs.declared.types.Field.{Field}
use Rattle.json_tree.specs.Layout.{distinct}
use Rattle.json_tree.specs.Tree.{Json, object}
use Rattle.json_tree.specs.Meaning.{IsJson}
use Rattle.json_flat.specs.Columns.{AreSlotsOf}
use Rattle.json_flat.specs.Names.{names_of}
use Rattle.json_flat.specs.Reading.{reading}
use Rattle.json_lend.specs.Fields.{value_named}
use Rattle.json_line.specs.Types.{has_line_reading}

-- the lines are objects, and these are the members of each
abbrev pub AreObjects : List (List (List ℕ × Json)) → List (List ℕ) → Type 0
AreObjects rows lines = AllZip (λ members line. IsJson (object members) line) rows lines

-- each row's value of a name; null where no member has it
abbrev pub values_named : List (List (List ℕ × Json)) → List ℕ → List Json
values_named rows name = map (λ members. value_named members name) rows

-- a column of a field, whose slots the rows' values of its name mean
pub record IsColumnOf (rows : List (List (List ℕ × Json))) (field : Field) (column : Array) : Type 0 where
  pub data_type : array_type column ≡ field.data_type
  pub slots : AreSlotsOf (reading field.data_type) (values_named rows field.name) (array_slots column)

-- each line is an object, and there is a column for each field, of the members with its name
pub record AreColumnsOf (fields : List Field) (lines : List (List ℕ)) (columns : List Array) : Type 0 where
  pub rows : List (List (List ℕ × Json))
  pub objects : AreObjects rows lines
  pub members : AllZip (IsColumnOf rows) fields columns

-- lines are read into columns of each field's type
abbrev pub have_line_readings : List Field → Bool
have_line_readings = list_all (λ (f : Field). has_line_reading f.data_type)

-- and no two fields have the same name
abbrev pub are_line_fields : List Field → Bool
are_line_fields fields = distinct (names_of fields) && have_line_readings fields

-- lists have items, which lines are read into. A contract of a private function alone cites this and what follows.
abbrev pub are_sized_items : ℕ → Field → Bool
are_sized_items size item = not (size == 0) && has_line_reading item.data_type

-- there are fields, and they are such
abbrev pub are_struct_fields : List Field → Bool
are_struct_fields fields = not (length fields == 0) && are_line_fields fields
