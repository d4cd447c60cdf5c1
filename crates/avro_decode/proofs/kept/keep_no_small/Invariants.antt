use Rattle.avro_schema.specs.ValidBlock.{IsSmall}
use Rattle.avro_decode.proofs.KeptSchemas.{KeptSoFar}
use Rattle.avro_decode.proofs.kept.keep_no_small.Given as goal

abbrev pub invariant-loop-i : goal.invariant-loop-i
invariant-loop-i l = record {
  holds : KeptSoFar (λ f. IsSmall f.data_type → ⊥) l.fields l.projection l.i;
}
