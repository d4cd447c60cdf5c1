use Rattle.avro_decode.proofs.FieldSteps.{KeptSoFar}
use Rattle.avro_decode.proofs.kept_rows.all_kept.Given as goal

abbrev pub invariant-loop-i : goal.invariant-loop-i
invariant-loop-i l = record {
  kept : KeptSoFar l.i l.projection;
}
