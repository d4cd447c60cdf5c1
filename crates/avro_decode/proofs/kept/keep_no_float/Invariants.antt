use Rattle.avro_schema.specs.ValidBlock.{HasFloat}
use Rattle.avro_decode.proofs.KeptSchemas.{HoldsSoFar}
use Rattle.avro_decode.proofs.kept.keep_no_float.Given as goal

abbrev pub invariant-loop-i : goal.invariant-loop-i
invariant-loop-i l = record {
  holds : HoldsSoFar (λ s. HasFloat s → ⊥) l.avro_fields l.projection l.i;
}
