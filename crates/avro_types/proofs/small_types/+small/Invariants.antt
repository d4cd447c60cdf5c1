use Rattle.std.proofs.Common.{ℕ, ◌<◌, get_or}
use Rattle.arrow_core.specs.declared.types.Field.{Field}
use Rattle.avro_schema.specs.ValidBlock.{IsSmall}
use Rattle.avro_types.proofs.small_types.+small.Given as goal

abbrev pub invariant-holds_small-loop-i : goal.invariant-holds_small-loop-i
invariant-holds_small-loop-i l = record {
  none : (k : ℕ) (d : Field) → k < l.i → IsSmall (get_or l.fields k d).data_type → ⊥;
}
