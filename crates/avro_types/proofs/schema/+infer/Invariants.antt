-- The columns are those of the fields so far.
use Rattle.std.proofs.Common.{◌≡◌, take, Some}
use Rattle.avro_schema.specs.Inferred.{columns_of}
use Rattle.avro_types.proofs.schema.+infer.Given as goal

abbrev pub invariant-infer_fields-loop-field : goal.invariant-infer_fields-loop-field
invariant-infer_fields-loop-field l =
    (columns_of (λ a. a.doc) (take l.field-index l.field-items) ≡ Some l.fields.items) × (l.field-items ≡ l.avro_fields)
