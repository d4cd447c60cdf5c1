use Rattle.avro_schema.specs.ValidBlock.{EnumsFit}
use Rattle.avro_decode.proofs.KeptSchemas.{HoldsSoFar}
use Rattle.avro_decode.proofs.kept.kept_enums_fit.Given as goal

abbrev pub invariant-loop-i : goal.invariant-loop-i
invariant-loop-i l = record {
  holds : HoldsSoFar EnumsFit l.avro_fields l.projection l.i;
}
