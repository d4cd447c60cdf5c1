use Rattle.std.proofs.Common.{ℕ, ◌<◌, get_or}
use Rattle.avro_schema.specs.declared.schema.AvroField.{AvroField}
use Rattle.avro_schema.specs.Carried.{Carried}
use Rattle.avro_types.proofs.carried.+carried.Given as goal

abbrev pub invariant-all_carried-loop-i : goal.invariant-all_carried-loop-i
invariant-all_carried-loop-i l = record {
  carried : (k : ℕ) (d : AvroField) → k < l.i → Carried (get_or l.fields k d).schema;
}
