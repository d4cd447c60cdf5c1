use Rattle.std.proofs.Common.{◌≡◌, length}
use Rattle.avro_decode.proofs.FieldSteps.{FitSoFar}
use Rattle.avro_decode.proofs.steps.steps_of.Given as goal

abbrev pub invariant-loop-i : goal.invariant-loop-i
invariant-loop-i l = record {
  long : length l.steps ≡ 64;
  fit : FitSoFar l.i l.steps l.avro_fields;
}
