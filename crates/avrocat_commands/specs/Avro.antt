-- The file made of JSON lines, as `avro NAME PER_BLOCK MARKER FIELD..` asks for it.
use Rattle.std.specs.Prelude.{◌≡◌, ◌≢◌, ◌⊎◌, ⊤, ℕ, List, Some, None}
use Rattle.arrow_core.specs.declared.error.Error.{Error}
use Rattle.arrow_core.specs.declared.error.Error.TheVariants.{NotYetImplemented, OutOfMemory}
use Rattle.arrow_core.specs.declared.error.Reason.TheVariants.{MapOrUnion}
use Rattle.arrow_core.specs.declared.types.Field.{Field}
use Rattle.avro_container.specs.Changes.{Change}
use Rattle.avro_schema.specs.Inferred.{inferred_columns}
use Rattle.cli_words.specs.declared.command.AvroWords.{AvroWords}
use Rattle.ndjson_avro.specs.Answers.{AreLinesOf}
use Rattle.ndjson_avro.specs.Conversion.{Converts, ConversionFails, IsUntouched}
use Rattle.ndjson_avro.specs.Target.{HasNoTarget}
use Rattle.avrocat_commands.specs.Input.{byte_limit, Tells}

-- these are the columns of the fields
abbrev pub HasColumns : AvroWords → List Field → Type 0
HasColumns avro columns = inferred_columns avro.avro_fields ≡ Some columns

-- the source's whole bytes are lines of such rows, and the sink got the file of them
abbrev pub AvroDone : AvroWords → Change → Change → Type 0
AvroDone avro source sink =
    (columns : List Field) × (count : ℕ) × HasColumns avro columns × Converts columns avro.name avro.marker avro.rows_per_block byte_limit source sink count

-- why the fields have no columns
abbrev pub HasNoColumns : AvroWords → Error → Type 0
HasNoColumns avro (NotYetImplemented MapOrUnion) = inferred_columns avro.avro_fields ≡ None
HasNoColumns avro OutOfMemory = ⊤
HasNoColumns avro _ = ⊥

-- why the file isn't written, or not all of it
abbrev pub AvroFails : AvroWords → Change → Change → Error → Type 0
AvroFails avro source sink e =
    (IsUntouched source × IsUntouched sink × HasNoColumns avro e)
    ⊎ ((columns : List Field) × HasColumns avro columns × ConversionFails columns avro.name avro.marker avro.rows_per_block byte_limit source sink e)

-- ---- what must be answered, memory allowing

-- the source tells lines of rows that can be written
abbrev pub HasRows : AvroWords → Change → Type 0
HasRows avro source = (columns : List Field) × (bytes : List ℕ) × HasColumns avro columns × Tells source bytes × AreLinesOf columns avro.name bytes

-- the fields have no columns, or rows of these can't be read or written
abbrev pub AvroDue : AvroWords → Error → Type 0
AvroDue avro e = (e ≢ OutOfMemory) × (HasNoColumns avro e ⊎ ((columns : List Field) × HasColumns avro columns × HasNoTarget columns e))
