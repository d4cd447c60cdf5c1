-- What a conversion of a file into lines does, and why it stops. Each error has its one cause, and out of memory may
-- come at any time.
use Rattle.std.specs.Prelude.{◌≡◌, ◌≢◌, ℕ, ◌-◌, ◌<◌, ◌≤◌, List, [], length, Option, Some, None, ◌⊎◌}
use Rattle.std.specs.Io.KnownBytes.{Appends, Keeps, Consumes, IsAtEnd}
use Rattle.arrow_core.specs.declared.error.Error.{Error}
use Rattle.arrow_core.specs.declared.error.Error.TheVariants.{InvalidArgumentError, NotYetImplemented, OutOfMemory}
use Rattle.arrow_core.specs.declared.error.Reason.TheVariants as reason
use Rattle.arrow_core.specs.declared.types.Field.{Field}
use Rattle.avro_schema.specs.declared.schema.AvroField.{AvroField}
use Rattle.avro_schema.specs.declared.schema.Record.{Record, out-Record}
use Rattle.avro_schema.specs.Carried.{CarriedList}
use Rattle.avro_schema.specs.Inferred.{inferred_columns}
use Rattle.avro_schema.specs.ValidBlock.{KeepNoFloat}
use Rattle.avro_container.specs.Taking.{state}
use Rattle.avro_container.specs.Changes.{Change, header_of}
use Rattle.avro_schema.specs.Refusals.{AreCarried}
use Rattle.avro_file.specs.Metadata.{ReadsMetadata, MetadataFails}
use Rattle.avro_ndjson.specs.Keep.{NamesFields}
use Rattle.avro_ndjson.specs.Shown.{kept_of, HaveTexts, CanBeShown, projected_of, ShowsFile}
use Rattle.avro_ndjson.specs.Taken.{StopsAtBlock}

-- ---- the fields of a file's record

-- there is a field, all are carried, each number given is a field's, each once, and there is at least one where any
-- are given
abbrev pub AreChosen : Option (List ℕ) → List AvroField → Type 0
AreChosen keep avro_fields = AreCarried avro_fields × NamesFields keep (length avro_fields) × (keep ≢ Some [])

-- a type of a kept field has no JSON text
abbrev pub LacksText : Option (List ℕ) → List AvroField → Type 0
LacksText keep avro_fields = (fields : List Field) × (inferred_columns avro_fields ≡ Some fields) × (HaveTexts fields (kept_of keep avro_fields) → ⊥)

-- why the rows of these fields can't be shown, in this order
abbrev pub CannotBeShown : Option (List ℕ) → List AvroField → Error → Type 0
CannotBeShown keep avro_fields (NotYetImplemented reason.NoField) = avro_fields ≡ []
CannotBeShown keep avro_fields (NotYetImplemented reason.NotCarried) = (0 < length avro_fields) × (CarriedList avro_fields → ⊥)
CannotBeShown keep avro_fields (InvalidArgumentError reason.KeepNumber) = AreCarried avro_fields × (NamesFields keep (length avro_fields) → ⊥)
CannotBeShown keep avro_fields (InvalidArgumentError reason.NothingKept) = AreCarried avro_fields × (keep ≡ Some [])
CannotBeShown keep avro_fields (NotYetImplemented reason.Float) = AreChosen keep avro_fields × (KeepNoFloat avro_fields (kept_of keep avro_fields) → ⊥)
CannotBeShown keep avro_fields (NotYetImplemented reason.NoJsonText) = AreChosen keep avro_fields × KeepNoFloat avro_fields (kept_of keep avro_fields) × LacksText keep avro_fields
CannotBeShown keep avro_fields OutOfMemory = Unit {0}
CannotBeShown keep avro_fields _ = ⊥

-- ---- the whole conversion

-- All bytes of the source, no more than the limit, are a file, and the sink got the lines of its rows, so many. Of a
-- source or a sink whose bytes the contract knows, these are the bytes.
pub record Converts (keep : Option (List ℕ)) (limit : ℕ) (source sink : Change) (count : ℕ) : Type 0 where
  pub bytes : List ℕ
  pub text : List ℕ
  pub taken : Consumes source.bytes source.bytes_after bytes
  pub whole : IsAtEnd source.bytes_after
  pub within : length bytes ≤ limit
  pub shows : ShowsFile keep bytes text count
  pub written : Appends sink.bytes sink.bytes_after text

-- a header was read, and the fields of its record can't be shown
pub record HeaderNotShown (keep : Option (List ℕ)) (limit : ℕ) (source : Change) (e : Error) : Type 0 where
  pub root : Record
  pub marker : List ℕ
  pub count : ℕ
  pub reads : ReadsMetadata (header_of limit source source.bytes_after source.faults_after) root marker count
  pub why : CannotBeShown keep (out-Record root).fields e

-- a header was read, whose record can be shown; of the blocks after it whole ones were shown, and the next one was not
pub record BlockNotShown (keep : Option (List ℕ)) (limit : ℕ) (source sink : Change) (e : Error) : Type 0 where
  pub root : Record
  pub marker : List ℕ
  pub count : ℕ
  pub left : Option (List ℕ)
  pub faults : ℕ
  pub never_falls : source.faults ≤ faults
  pub reads : ReadsMetadata (header_of limit source left faults) root marker count
  pub fields : List Field
  pub shown : CanBeShown keep (out-Record root).fields fields
  pub limit_after : ℕ
  pub stops : StopsAtBlock (projected_of keep root fields) marker (state left faults (limit - count) None) (state source.bytes_after source.faults_after limit_after None) sink e

-- why a conversion stops; before the first block the sink got nothing
abbrev pub ConversionFails : Option (List ℕ) → ℕ → Change → Change → Error → Type 0
ConversionFails keep limit source sink e =
    (Keeps sink.bytes sink.bytes_after
    × (MetadataFails (header_of limit source source.bytes_after source.faults_after) e ⊎ HeaderNotShown keep limit source e))
    ⊎ BlockNotShown keep limit source sink e
