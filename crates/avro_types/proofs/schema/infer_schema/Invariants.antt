-- The columns are those of the fields so far.
use Rattle.std.proofs.Common.{◌≡◌, take, Some}
use Rattle.avro_schema.specs.declared.schema.Record.{out-Record}
use Rattle.avro_schema.specs.Inferred.{columns_of, own_doc}
use Rattle.avro_types.proofs.schema.infer_schema.Given as goal

abbrev pub invariant-loop-field : goal.invariant-loop-field
invariant-loop-field l =
    (columns_of own_doc (take l.field-index l.field-items) ≡ Some l.fields.items) × (l.field-items ≡ (out-Record l.root).fields)
