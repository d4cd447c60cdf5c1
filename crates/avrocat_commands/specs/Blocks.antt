-- What is shown of a block.
use Rattle.std.specs.Prelude.{◌≡◌, ℕ, Bool, false, true, List, map, Some}
use Rattle.std.specs.Io.KnownBytes.{Appends}
use Rattle.arrow_core.specs.declared.slot.Slot.{Slot}
use Rattle.arrow_core.specs.declared.types.Field.{Field}
use Rattle.avro_schema.specs.declared.schema.AvroField.{AvroField}
use Rattle.avro_schema.specs.Inferred.{inferred_columns}
use Rattle.avro_schema.specs.ValidBlock.{kept, ValidBlock}
use Rattle.avro_types.specs.Enlarged.{enlarged}
use Rattle.avro_schema.specs.Columns.{AreColumns}
use Rattle.cli_words.specs.declared.command.BlockWords.{BlockWords}
use Rattle.avro_container.specs.Changes.{Change}
use Rattle.avrocat_commands.specs.Input.{TakesAll}
use Rattle.avrocat_commands.specs.Shown.{shown}

-- the fields as they are, or in large forms
abbrev pub AreForms : Bool → List Field → List Field → Type 0
AreForms false columns fields = fields ≡ columns
AreForms true columns fields = fields ≡ map enlarged columns

-- the columns that are made from the schemas of fields, or these in large forms
abbrev pub AreColumnsOf : List AvroField → Bool → List Field → Type 0
AreColumnsOf avro_fields large fields = (columns : List Field) × (inferred_columns avro_fields ≡ Some columns) × AreForms large columns fields

-- the bytes are valid for the rows and fields, under the types that the fields' schemas have
pub record IsValid (block : BlockWords) (bytes : List ℕ) : Type 0 where
  pub fields : List Field
  pub typed : AreColumnsOf block.avro_fields block.large fields
  pub valid : ValidBlock block.rows bytes fields block.avro_fields block.projection

-- and the text is the lines of the columns of the kept fields
pub record ShowsColumns (block : BlockWords) (bytes text : List ℕ) : Type 0 where
  pub valid : IsValid block bytes
  pub columns : List (List Slot)
  pub read : AreColumns block.rows block.avro_fields block.projection bytes columns
  pub lines : text ≡ shown (map (λ f. f.name) (kept block.avro_fields block.projection)) columns

-- The source's whole bytes are the block, and the sink got the lines of the kept fields.
-- Of a source or a sink whose bytes the contract knows, these are the bytes.
pub record BlockDone (block : BlockWords) (source sink : Change) : Type 0 where
  pub bytes : List ℕ
  pub text : List ℕ
  pub read : TakesAll source.bytes source.bytes_after bytes
  pub shows : ShowsColumns block bytes text
  pub written : Appends sink.bytes sink.bytes_after text
