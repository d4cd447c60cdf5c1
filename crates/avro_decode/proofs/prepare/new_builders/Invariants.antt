use Rattle.avro_decode.proofs.NewBuilders.{KeptSoFar}
use Rattle.avro_decode.proofs.prepare.new_builders.Given as goal

abbrev pub invariant-loop-i : goal.invariant-loop-i
invariant-loop-i l = record {
  made : KeptSoFar l.avro_fields l.fields l.projection l.i l.builders.items;
}
