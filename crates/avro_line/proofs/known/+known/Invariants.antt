use Rattle.std.proofs.Common.{ℕ, ◌<◌, get_or}
use Rattle.avro_schema.specs.declared.schema.AvroField.{AvroField}
use Rattle.avro_schema.specs.declared.schema.Schema.{Schema}
use Rattle.avro_schema.specs.ValidBlock.{EnumsFit}
use Rattle.avro_line.proofs.known.+known.Given as goal

abbrev pub invariant-fields_are_known-loop-i : goal.invariant-fields_are_known-loop-i
invariant-fields_are_known-loop-i l = record {
  fit : (k : ℕ) (d : AvroField) → k < l.i → EnumsFit (get_or l.avro_fields k d).schema;
}

abbrev pub invariant-members_are_known-loop-i : goal.invariant-members_are_known-loop-i
invariant-members_are_known-loop-i l = record {
  fit : (k : ℕ) (d : Schema) → k < l.i → EnumsFit (get_or l.members k d);
}
