-- Whether the rows of one field alone can be shown, or why they can't.
use Rattle.std.specs.Prelude.{List, [], ◌∷◌, Option, Some, None}
use Rattle.arrow_core.specs.declared.error.Error.TheVariants.{NotYetImplemented}
use Rattle.arrow_core.specs.declared.error.Reason.{Reason}
use Rattle.arrow_core.specs.declared.types.Field.{Field}
use Rattle.avro_schema.specs.declared.schema.AvroField.{AvroField}
use Rattle.avro_ndjson.specs.Refusals.{CannotBeShown}
use Rattle.avro_ndjson.specs.Shown.{CanBeShown}

-- they can
abbrev pub IsShownAlone : AvroField → Type 0
IsShownAlone field = (fields : List Field) × CanBeShown None (field ∷ []) fields

-- they can't, for this reason
abbrev pub IsRefusedAlone : AvroField → Reason → Type 0
IsRefusedAlone field reason = CannotBeShown None (field ∷ []) (NotYetImplemented reason)

abbrev pub IsAnswered : AvroField → Option Reason → Type 0
IsAnswered field None = IsShownAlone field
IsAnswered field (Some reason) = IsRefusedAlone field reason
