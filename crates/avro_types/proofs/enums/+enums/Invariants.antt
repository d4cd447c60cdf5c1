use Rattle.std.proofs.Common.{ℕ, ◌<◌, get_or}
use Rattle.avro_schema.specs.declared.schema.AvroField.{AvroField}
use Rattle.avro_schema.specs.declared.schema.Schema.{Schema}
use Rattle.avro_schema.specs.ValidBlock.{EnumsFit}
use Rattle.avro_types.proofs.enums.+enums.Given as goal

abbrev pub invariant-enums_of_fields_fit-loop-i : goal.invariant-enums_of_fields_fit-loop-i
invariant-enums_of_fields_fit-loop-i l = record {
  fit : (k : ℕ) (d : AvroField) → k < l.i → EnumsFit (get_or l.fields k d).schema;
}

abbrev pub invariant-enums_of_members_fit-loop-i : goal.invariant-enums_of_members_fit-loop-i
invariant-enums_of_members_fit-loop-i l = record {
  fit : (k : ℕ) (d : Schema) → k < l.i → EnumsFit (get_or l.members k d);
}
