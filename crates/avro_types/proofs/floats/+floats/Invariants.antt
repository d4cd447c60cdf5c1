use Rattle.std.proofs.Common.{ℕ, ◌<◌, get_or}
use Rattle.avro_schema.specs.declared.schema.AvroField.{AvroField}
use Rattle.avro_schema.specs.declared.schema.Schema.{Schema}
use Rattle.avro_schema.specs.ValidBlock.{HasFloat}
use Rattle.avro_types.proofs.floats.+floats.Given as goal

abbrev pub invariant-field_has_float-loop-i : goal.invariant-field_has_float-loop-i
invariant-field_has_float-loop-i l = record {
  none : (k : ℕ) (d : AvroField) → k < l.i → HasFloat (get_or l.fields k d).schema → ⊥;
}

abbrev pub invariant-member_has_float-loop-i : goal.invariant-member_has_float-loop-i
invariant-member_has_float-loop-i l = record {
  none : (k : ℕ) (d : Schema) → k < l.i → HasFloat (get_or l.members k d) → ⊥;
}
