-- The lines of a file's rows, and which files have them.
use Rattle.std.specs.Prelude.{◌≡◌, ◌≢◌, ℕ, ◌<◌, List, [], length, sum_by, All, Bool, true, Option, Some}
use Rattle.std.specs.List.{list_all, AllZip, concat}
use Rattle.arrow_core.specs.declared.slot.Slot.{Slot}
use Rattle.arrow_core.specs.declared.types.Field.{Field}
use Rattle.json_text.specs.Refusals.{has_text, all_in_range}
use Rattle.json_write.specs.Rows.{lines, names_of}
use Rattle.avro_schema.specs.declared.schema.AvroField.{AvroField}
use Rattle.avro_schema.specs.declared.schema.Record.{Record, out-Record}
use Rattle.avro_schema.specs.Carried.{CarriedList}
use Rattle.avro_schema.specs.Inferred.{inferred_columns}
use Rattle.avro_schema.specs.ValidBlock.{kept, KeepNoFloat}
use Rattle.avro_container.specs.File.{FileBlock}
use Rattle.avro_file.specs.File.{AvroFile}
use Rattle.avro_schema.specs.Columns.{kept_types}
use Rattle.avro_schema.specs.Projected.{Projected, projected, HasTable}
use Rattle.avro_ndjson.specs.Keep.{projection_of, NamesFields}

-- ---- the fields of a record

-- the projection of a record's fields
abbrev pub kept_of : Option (List ℕ) → List AvroField → List Bool
kept_of keep avro_fields = projection_of keep (length avro_fields)

-- each kept field's type has a JSON text
abbrev pub HaveTexts : List Field → List Bool → Type 0
HaveTexts fields projection = All (λ f. has_text f.data_type ≡ true) (kept fields projection)

-- The rows of these Avro fields can be shown under these fields: there is a field, all are carried, each number given
-- is a field's, each once, and there is at least one where any are given, and what is kept holds no float and has a
-- JSON text.
pub record CanBeShown (keep : Option (List ℕ)) (avro_fields : List AvroField) (fields : List Field) : Type 0 where
  pub some : 0 < length avro_fields
  pub carried : CarriedList avro_fields
  pub numbers : NamesFields keep (length avro_fields)
  pub some_kept : keep ≢ Some []
  pub no_float : KeepNoFloat avro_fields (kept_of keep avro_fields)
  pub columns : inferred_columns avro_fields ≡ Some fields
  pub texts : HaveTexts fields (kept_of keep avro_fields)

-- what a file's blocks are read by: its record's fields, the columns that they make, and which of them are kept
abbrev pub projected_of : Option (List ℕ) → Record → List Field → Projected
projected_of keep root fields = projected fields (out-Record root).fields (kept_of keep (out-Record root).fields)

-- ---- a block

-- the lines of a table of rows, under the names and by the types of the kept fields
abbrev pub table_lines : Projected → List (List Slot) → List ℕ
table_lines p = lines (names_of (kept p.fields p.projection)) (kept_types p.fields p.projection)

-- the dates and timestamps that a table shows are in the years 0 to 9999
abbrev pub dates_in_range : Projected → List (List Slot) → Bool
dates_in_range p = list_all (all_in_range (kept p.fields p.projection))

-- the text is the lines of the block's rows
pub record ShowsBlock (p : Projected) (block : FileBlock) (text : List ℕ) : Type 0 where
  pub table : List (List Slot)
  pub is : HasTable p block.rows block.bytes table
  pub in_range : dates_in_range p table ≡ true
  pub lines : text ≡ table_lines p table

-- ---- a file

-- The bytes are a file, and the text is the lines of its rows, so many, block after block. How blocks, arrays and
-- numbers are encoded does not show.
pub record ShowsFile (keep : Option (List ℕ)) (bytes text : List ℕ) (count : ℕ) : Type 0 where
  pub root : Record
  pub marker : List ℕ
  pub blocks : List FileBlock
  pub is_file : AvroFile bytes root marker blocks
  pub fields : List Field
  pub shown : CanBeShown keep (out-Record root).fields fields
  pub texts : List (List ℕ)
  pub shows : AllZip (ShowsBlock (projected_of keep root fields)) blocks texts
  pub joined : text ≡ concat texts
  pub counted : count ≡ sum_by (λ b. b.rows) blocks
