-- What was shown of a block's rows: their table, and its lines.
use Rattle.std.specs.Prelude.{◌≡◌, ℕ, All, Bool, true, List, ◌++◌, map, codes, Some, Ok}
use Rattle.std.specs.List.{AllZip, list_all}
use Rattle.arrow_core.specs.declared.slot.Slot.{Slot}
use Rattle.arrow_core.specs.declared.types.DataType.{DataType}
use Rattle.arrow_core.specs.declared.types.Field.{Field}
use Rattle.avro_schema.specs.declared.schema.AvroField.{AvroField}
use Rattle.avro_schema.specs.declared.schema.Schema.{Schema}
use Rattle.avro_schema.specs.Inferred.{inferred}
use Rattle.avro_schema.specs.Parts.{Many}
use Rattle.avro_schema.specs.Rows.{Pieces, Row, Rows}
use Rattle.avro_schema.specs.Skips.{Passed}
use Rattle.avro_schema.specs.ValidBlock.{kept}
use Rattle.avro_reference.specs.Skip.{skip}
use Rattle.json_text.specs.declared.columns.Column.{Column}
use Rattle.json_text.specs.Columns.{AreNamedFrom}
use Rattle.json_text.specs.Refusals.{all_in_range, has_text}
use Rattle.json_write.specs.Rows.{lines, names_of, row_object}

-- the type of each of these fields has a JSON text
abbrev pub HaveTexts : List AvroField → Type 0
HaveTexts = All (λ a. (t : DataType) → inferred a.schema ≡ Some t → has_text t ≡ true)

-- The fields have the types of the Avro fields' schemas, and the columns are theirs. `is_first`: they begin a row.
pub record ArePreparedFrom (is_first : Bool) (avro_fields : List AvroField) (fields : List Field) (columns : List Column) : Type 0 where
  pub typed : AllZip (λ a f. inferred a.schema ≡ Some f.data_type) avro_fields fields
  pub named : AreNamedFrom is_first (map (λ f. f.name) fields) (map (λ f. f.data_type) fields) columns

-- those of a whole row
abbrev pub ArePrepared : List AvroField → List Field → List Column → Type 0
ArePrepared = ArePreparedFrom true

-- what was passed is a value of the schema
abbrev pub SkipsTo : Schema → List ℕ → List ℕ → Type 0
SkipsTo s before after = (p : Passed) × (skip s before ≡ Ok (p, after))

-- The bytes `before` begin with a row, and `after` follows it. Its line was added to `old`, and its dates are in range.
pub record ShowsRow (avro_fields : List AvroField) (projection : List Bool) (fields : List Field) (before after old new : List ℕ) : Type 0 where
  pub pieces : Pieces
  pub prefix : List ℕ
  pub joined : before ≡ prefix ++ after
  pub row : Row avro_fields projection prefix pieces
  pub shown : new ≡ old ++ (row_object (names_of fields) (map (λ f. f.data_type) fields) pieces.slots ++ codes "\n")
  pub dates : all_in_range fields pieces.slots ≡ true

abbrev pub ShowsLine : List AvroField → List Bool → List Column → List ℕ → List ℕ → List ℕ → List ℕ → Type 0
ShowsLine avro_fields projection columns before after old new = (fields : List Field) → ArePrepared (kept avro_fields projection) fields columns → ShowsRow avro_fields projection fields before after old new

-- the same of n rows
pub record ShowsTable (n : ℕ) (avro_fields : List AvroField) (projection : List Bool) (fields : List Field) (before after old new : List ℕ) : Type 0 where
  pub pieces : List Pieces
  pub prefix : List ℕ
  pub joined : before ≡ prefix ++ after
  pub rows : Many (Row avro_fields projection) n prefix pieces
  pub shown : new ≡ old ++ lines (names_of fields) (map (λ f. f.data_type) fields) (map (λ row. row.slots) pieces)
  pub dates : list_all (all_in_range fields) (map (λ row. row.slots) pieces) ≡ true

abbrev pub ShowsLines : ℕ → List AvroField → List Bool → List Column → List ℕ → List ℕ → List ℕ → List ℕ → Type 0
ShowsLines n avro_fields projection columns before after old new = (fields : List Field) → ArePrepared (kept avro_fields projection) fields columns → ShowsTable n avro_fields projection fields before after old new

-- The bytes are n rows, whose kept slots are the table. Its lines, under the names and by the types of the fields, were
-- added to `old`, and its dates are in range.
pub record ShowsRows (n : ℕ) (avro_fields : List AvroField) (projection : List Bool) (fields : List Field) (bytes old new : List ℕ) : Type 0 where
  pub table : List (List Slot)
  pub rows : Rows n avro_fields projection bytes table
  pub shown : new ≡ old ++ lines (names_of fields) (map (λ f. f.data_type) fields) table
  pub dates : list_all (all_in_range fields) table ≡ true

-- the same, whatever fields the columns are made for
abbrev pub ShowsRowsOf : ℕ → List AvroField → List Bool → List Column → List ℕ → List ℕ → List ℕ → Type 0
ShowsRowsOf n avro_fields projection columns bytes old new = (fields : List Field) → ArePrepared (kept avro_fields projection) fields columns → ShowsRows n avro_fields projection fields bytes old new
