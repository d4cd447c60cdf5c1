use Rattle.avro_decode.proofs.NewBuilders.{StringsSoFar}
use Rattle.avro_decode.proofs.make.symbol_strings.Given as goal

abbrev pub invariant-loop-i : goal.invariant-loop-i
invariant-loop-i l = record {
  made : StringsSoFar l.symbols l.i l.strings.slots l.strings.bytes;
}
