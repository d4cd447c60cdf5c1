-- What an encoder of blocks is made of. Contracts of private functions alone cite this file.
use Rattle.std.specs.Prelude.{◌≡◌, ◌<◌, length, All, true, Some, IfSome}
use Rattle.std.specs.List.{AllZip}
use Rattle.json_text.specs.Refusals.{has_text, has_offsets}
use Rattle.avro_schema.specs.Inferred.{inferred}
use Rattle.avro_schema.specs.ValidBlock.{kept}
use Rattle.avro_schema.specs.Projected.{CanBeDecoded}
use Rattle.avro_ndjson.specs.declared.lines.BlockEncoder.{BlockEncoder}
use Rattle.avro_ndjson.specs.Plan.{IsPlan}

-- Its fields are the kept ones, at least one; each has the type of its schema, a JSON text, and the offsets of zones.
-- Rows are shown without columns by the same fields.
pub record IsEncoder (encoder : BlockEncoder) : Type 0 where
  pub typed : AllZip (λ a f. inferred a.schema ≡ Some f.data_type) (kept encoder.decoder.avro_fields encoder.decoder.projection) encoder.lines.fields
  pub kept : encoder.lines.fields ≡ kept encoder.decoder.fields encoder.decoder.projection
  pub some : 0 < length encoder.lines.fields
  pub texts : All (λ f. has_text f.data_type ≡ true) encoder.lines.fields
  pub offsets : All (λ f. has_offsets f.data_type ≡ true) encoder.lines.fields
  pub possible : CanBeDecoded encoder.decoder
  pub plan : IfSome encoder.plan (IsPlan encoder.decoder.avro_fields encoder.decoder.projection encoder.lines.fields)
