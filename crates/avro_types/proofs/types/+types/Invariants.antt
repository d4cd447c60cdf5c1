use Rattle.std.proofs.Common.{ℕ, ◌<◌, true, get_or}
use Rattle.arrow_core.specs.declared.types.Field.{Field}
use Rattle.avro_schema.specs.declared.schema.AvroField.{AvroField}
use Rattle.avro_schema.specs.Types.{HasColumnType}
use Rattle.avro_types.proofs.types.+types.Given as goal

abbrev pub invariant-has_column_types-loop-i : goal.invariant-has_column_types-loop-i
invariant-has_column_types-loop-i l = record {
  fit : (k : ℕ) (d : Field) (e : AvroField) → k < l.i → HasColumnType true (get_or l.avro_fields k e).schema (get_or l.fields k d);
}
