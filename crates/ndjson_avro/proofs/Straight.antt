-- Rows that are read without trees are those that trees give.
use Rattle.std.proofs.Common.{◌≡◌, ◌∙◌, ℕ, ◌<◌, true, false, List, [], ◌∷◌, length, map, refl, sym, ap, Option, Some, None, All}
use Rattle.std.specs.Prelude.{MatchOption}
use Rattle.std.specs.List.{AllZip}
use Rattle.std.proofs.lemmas.List.Elements.{All-cons, All-nil}
use Rattle.arrow_array.specs.Arrays.{array_slots}
use Rattle.arrow_array.specs.Structs.{first_len, record_at}
use Rattle.arrow_array.specs.Slots.{slots_of}
use Rattle.arrow_array.specs.declared.array.Array.{Array}
use Rattle.arrow_core.specs.declared.types.DataType as types
use Rattle.arrow_core.specs.declared.types.DataType.{DataType}
use Rattle.arrow_core.specs.declared.types.Field.{Field}
use Rattle.json_tree.specs.Meaning.{IsJson}
use Rattle.json_tree.specs.Tree.{Json, object}
use Rattle.json_tree.specs.declared.value.Value.{out-Value}
use Rattle.json_columns.proofs.ObjectRows.{objects_of, structs_of_rows}
use Rattle.json_line.specs.Lines.{are_line_fields, AreColumnsOf, AreObjects, IsColumnOf}
use Rattle.ndjson_avro.specs.Steps.{AreBuildersOf, AreRead}
use Rattle.ndjson_avro.specs.Values.{is_object}

-- ---- rows

one_object : (members : List (List ℕ × Json)) → is_object (object members) ≡ true
unfolding out-Value denote.Hole.Carrier.out
one_object members = refl

all_objects : (rows : List (List (List ℕ × Json))) → All (λ value. is_object value ≡ true) (objects_of rows)
all_objects [] = All-nil (λ value. is_object value ≡ true)
all_objects (members ∷ rows) = All-cons (λ value. is_object value ≡ true) (object members) (objects_of rows) (one_object members) (all_objects rows)

have_values : (rows : List (List (List ℕ × Json))) (texts : List (List ℕ)) → AreObjects rows texts → AllZip IsJson (objects_of rows) texts
have_values [] [] h = tt
have_values [] (t ∷ texts) h = absurd h
have_values (members ∷ rows) [] h = absurd h
have_values (members ∷ rows) (t ∷ texts) h = (h.0, have_values rows texts h.1)

-- ---- columns

-- the structs of columns that lines were read into
pub lines_are_read : (t : DataType) (fields : List Field) (texts : List (List ℕ)) (columns : List Array) (a : Array) → t ≡ types.Struct fields → AreColumnsOf fields texts columns → 0 < length columns → array_slots a ≡ slots_of (record_at (map array_slots columns)) None 0 (first_len columns) → AreRead t texts (array_slots a)
lines_are_read t fields texts columns a is c some slots = record {
  values = objects_of c.rows;
  have = have_values c.rows texts c.objects;
  objects = all_objects c.rows;
  meant = structs_of_rows (IsColumnOf c.rows) t fields c.rows columns a (λ f b column. (column.data_type, column.slots)) is c.members some slots;
}

-- builders of the row type's fields
pub are_lines : (made : Option (List Field)) (t : DataType) (fields given : List Field) → t ≡ types.Struct fields → given ≡ fields → MatchOption made (are_line_fields given ≡ false) (λ builders. (builders ≡ given) × (are_line_fields given ≡ true)) → AreBuildersOf t made
are_lines None t fields given is same h = tt
are_lines (Some builders) t fields given is same h = is ∙ ap types.Struct (sym (h.0 ∙ same))
