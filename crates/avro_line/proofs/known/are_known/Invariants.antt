use Rattle.std.proofs.Common.{◌≡◌, ℕ, ◌<◌, get_or, true, false}
use Rattle.avro_schema.specs.declared.schema.AvroField.{AvroField}
use Rattle.avro_schema.specs.ValidBlock.{EnumsFit}
use Rattle.avro_line.proofs.known.are_known.Given as goal

abbrev pub invariant-loop-i : goal.invariant-loop-i
invariant-loop-i l = record {
  fit : (k : ℕ) (d : AvroField) → k < l.i → get_or l.projection k false ≡ true → EnumsFit (get_or l.avro_fields k d).schema;
}
