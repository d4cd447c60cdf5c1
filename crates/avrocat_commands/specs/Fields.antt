-- The fields of a file's record, as `fields` asks for them.
use Rattle.std.specs.Prelude.{◌≡◌, ◌+◌, ◌⊎◌, ℕ, List, [], ◌∷◌, ◌++◌, codes, decimal}
use Rattle.std.specs.Io.KnownBytes.{Appends, Keeps}
use Rattle.arrow_base.specs.Outside.{AppendsPrefix}
use Rattle.arrow_base.specs.WrittenString.{json_string}
use Rattle.arrow_core.specs.Errors.{reason_name}
use Rattle.arrow_core.specs.declared.error.Error.{Error}
use Rattle.arrow_core.specs.declared.error.Error.TheVariants.{WriteFault, OutOfMemory}
use Rattle.arrow_core.specs.declared.error.Reason.{Reason}
use Rattle.avro_schema.specs.declared.schema.AvroField.{AvroField}
use Rattle.avro_schema.specs.declared.schema.Record.{Record, out-Record}
use Rattle.avro_container.specs.Changes.{Change, Failed, header_of}
use Rattle.avro_file.specs.Metadata.{ReadsMetadata, MetadataFails}
use Rattle.avro_ndjson.specs.Alone.{IsShownAlone, IsRefusedAlone}
use Rattle.cli_words.specs.Printed.{type_text}
use Rattle.avrocat_commands.specs.Input.{byte_limit}

-- ---- a field's line

-- `ndjson` where the field's rows can be shown, and else why they can't
abbrev pub IsVerdict : AvroField → List ℕ → Type 0
IsVerdict field text =
    (IsShownAlone field × (text ≡ codes "ndjson"))
    ⊎ ((reason : Reason) × IsRefusedAlone field reason × (text ≡ reason_name reason))

-- the field's number, its name, its type and the verdict, with a tab between each two
abbrev pub field_line : ℕ → AvroField → List ℕ → List ℕ
field_line number field verdict =
    decimal number ++ codes "\t" ++ json_string field.name ++ codes "\t" ++ type_text field.schema ++ codes "\t" ++ verdict ++ codes "\n"

pub record IsFieldLine (number : ℕ) (field : AvroField) (line : List ℕ) : Type 0 where
  pub verdict : List ℕ
  pub is_verdict : IsVerdict field verdict
  pub parts : line ≡ field_line number field verdict

-- the lines of fields in order, whose numbers count from this one
abbrev pub AreFieldLines : ℕ → List AvroField → List ℕ → Type 0
AreFieldLines number [] text = text ≡ []
AreFieldLines number (field ∷ more) text = (line : List ℕ) × (rest : List ℕ) × IsFieldLine number field line × (text ≡ line ++ rest) × AreFieldLines (number + 1) more rest

-- cited by private contracts alone

abbrev pub AppendsVerdict : AvroField → List ℕ → List ℕ → Type 0
AppendsVerdict field old new = (verdict : List ℕ) × IsVerdict field verdict × (new ≡ old ++ verdict)

abbrev pub AppendsLine : ℕ → AvroField → List ℕ → List ℕ → Type 0
AppendsLine number field old new = (line : List ℕ) × IsFieldLine number field line × (new ≡ old ++ line)

-- ---- the whole command

-- a file's header was taken, and nothing past it, and these are the lines of its record's fields
pub record ListsFields (source : Change) (text : List ℕ) : Type 0 where
  pub root : Record
  pub marker : List ℕ
  pub count : ℕ
  pub reads : ReadsMetadata (header_of byte_limit source source.bytes_after source.faults_after) root marker count
  pub lines : AreFieldLines 0 (out-Record root).fields text

-- and the sink got them
abbrev pub FieldsDone : Change → Change → Type 0
FieldsDone source sink = (text : List ℕ) × ListsFields source text × Appends sink.bytes sink.bytes_after text

-- why it got none, or not all of them
abbrev pub FieldsFails : Change → Change → Error → Type 0
FieldsFails source sink e =
    (Keeps sink.bytes sink.bytes_after × (MetadataFails (header_of byte_limit source source.bytes_after source.faults_after) e ⊎ (e ≡ OutOfMemory)))
    ⊎ ((text : List ℕ) × ListsFields source text × (e ≡ WriteFault) × AppendsPrefix sink.bytes sink.bytes_after text × Failed sink)
