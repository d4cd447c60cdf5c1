-- What was shown of a value: its slot, and the slot's text. Contracts of private functions alone cite this file.
use Rattle.std.specs.Prelude.{◌≡◌, ℕ, ◌≤◌, ℤ, pos, true, List, [], ◌∷◌, ◌++◌, length, map, take, drop, Some, ◌⊎◌}
use Rattle.std.specs.List.{list_all}
use Rattle.arrow_core.specs.declared.slot.Slot.{Slot}
use Rattle.arrow_core.specs.declared.slot.Slot.TheVariants as slot
use Rattle.arrow_core.specs.declared.types.DataType.{DataType}
use Rattle.arrow_core.specs.declared.types.DataType.TheVariants.{Struct}
use Rattle.arrow_core.specs.declared.types.Field.{Field}
use Rattle.avro_schema.specs.declared.schema.AvroField.{AvroField}
use Rattle.avro_schema.specs.declared.schema.Schema.{Schema}
use Rattle.avro_schema.specs.Inferred.{inferred}
use Rattle.avro_schema.specs.TypeLaws.{inferred_member_of}
use Rattle.avro_reference.specs.Listed.{read_record_of, read_union_of}
use Rattle.avro_reference.specs.Prefix.{Reader, number_at}
use Rattle.avro_reference.specs.Read.{items, array_at, read}
use Rattle.json_text.specs.declared.columns.Column.{Column}
use Rattle.json_text.specs.declared.integers.IntegerForm.{IntegerForm}
use Rattle.json_text.specs.Columns.{AreWithin, IsForm, integer_in_range, integer_text}
use Rattle.json_text.specs.JsonText.{text, array, joined}
use Rattle.json_text.specs.Refusals.{in_range}
use Rattle.avro_line.specs.Rows.{ArePrepared}

-- The bytes `before` begin with what f reads as a slot, and `after` follows it. Its text by the type was added to `old`,
-- and its dates are in range.
pub record ShowsSlot (f : Reader Slot) (t : DataType) (before after old new : List ℕ) : Type 0 where
  pub value : Slot
  pub read : f before ≡ Some (value, after)
  pub shown : new ≡ old ++ text t value
  pub dates : in_range t value ≡ true

-- an integer's text by its form was added, and it is in range
pub record AddsInteger (form : IntegerForm) (n : ℤ) (old new : List ℕ) : Type 0 where
  pub shown : new ≡ old ++ integer_text form n
  pub dates : integer_in_range form n ≡ true

-- the form is that of the integers of the very type
abbrev pub IsPlainForm : IntegerForm → DataType → Type 0
IsPlainForm form t = (n : ℤ) → (integer_text form n ≡ text t (slot.Integer n)) × (integer_in_range form n ≡ in_range t (slot.Integer n))

-- an integer was shown, by each type of its form
abbrev pub ShowsIntegers : Reader Slot → IntegerForm → List ℕ → List ℕ → List ℕ → List ℕ → Type 0
ShowsIntegers f form before after old new = (t : DataType) → IsPlainForm form t → ShowsSlot f t before after old new

-- a value of a schema with no others in it was shown, by the type that the schema has
abbrev pub ShowsFlat : Schema → IntegerForm → List ℕ → List ℕ → List ℕ → List ℕ → Type 0
ShowsFlat s form before after old new = (t : DataType) → inferred s ≡ Some t → IsForm form t → ShowsSlot (read s) t before after old new

-- a value of a schema was shown, by the type that the schema has, if the columns are those within that type
abbrev pub ShowsValue : Schema → IntegerForm → List Column → List ℕ → List ℕ → List ℕ → List ℕ → Type 0
ShowsValue s form columns before after old new = (t : DataType) → inferred s ≡ Some t → IsForm form t → AreWithin t columns → ShowsSlot (read s) t before after old new

-- the number of one of two members was read, and this is that member
pub record TakesMember (members : List Schema) (before after : List ℕ) (member : Schema) : Type 0 where
  pub other : Schema
  pub taken : ((number_at before ≡ Some (pos 0, after)) × (members ≡ member ∷ other ∷ [])) ⊎ ((number_at before ≡ Some (pos 1, after)) × (members ≡ other ∷ member ∷ []))

-- a union of these members was shown, by the type that it has
abbrev pub ShowsUnion : List Schema → IntegerForm → List Column → List ℕ → List ℕ → List ℕ → List ℕ → Type 0
ShowsUnion members form columns before after old new = (t : DataType) → inferred_member_of members ≡ Some t → IsForm form t → AreWithin t columns → ShowsSlot (read_union_of members) t before after old new

-- so many items were shown, by the type that their schema has, with commas between them
pub record ShowsItems (s : Schema) (t : DataType) (n : ℕ) (before after old new : List ℕ) : Type 0 where
  pub slots : List Slot
  pub read : items (read s) n [] before ≡ Some (slots, after)
  pub shown : new ≡ old ++ joined (map (text t) slots)
  pub dates : list_all (in_range t) slots ≡ true

abbrev pub ShowsItemsOf : Schema → IntegerForm → List Column → ℕ → List ℕ → List ℕ → List ℕ → List ℕ → Type 0
ShowsItemsOf s form columns n before after old new = (t : DataType) → inferred s ≡ Some t → IsForm form t → AreWithin t columns → ShowsItems s t n before after old new

pub record ShowsList (s : Schema) (t : DataType) (before after old new : List ℕ) : Type 0 where
  pub slots : List Slot
  pub read : array_at (read s) before ≡ Some (slot.List slots, after)
  pub shown : new ≡ old ++ array (map (text t) slots)
  pub dates : list_all (in_range t) slots ≡ true

-- an array of items was shown
abbrev pub ShowsArray : Schema → IntegerForm → List Column → List ℕ → List ℕ → List ℕ → List ℕ → Type 0
ShowsArray s form columns before after old new = (t : DataType) → inferred s ≡ Some t → IsForm form t → AreWithin t columns → ShowsList s t before after old new

-- a record of these fields was shown, if the columns are theirs
abbrev pub ShowsRecord : List AvroField → List Column → List ℕ → List ℕ → List ℕ → List ℕ → Type 0
ShowsRecord avro_fields columns before after old new = (fields : List Field) → ArePrepared avro_fields fields columns → ShowsSlot (read_record_of avro_fields) (Struct fields) before after old new

-- the next column, those within it, and those after them
abbrev pub IsNextColumn : List Column → Column → List Column → List Column → Type 0
IsNextColumn columns column within after = (more : List Column) × (columns ≡ column ∷ more) × (column.within ≤ length more) × (within ≡ take column.within more) × (after ≡ drop column.within more)
