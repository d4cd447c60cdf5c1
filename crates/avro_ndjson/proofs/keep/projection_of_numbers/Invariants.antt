use Rattle.avro_ndjson.proofs.Numbers.{Flagged}
use Rattle.avro_ndjson.proofs.keep.projection_of_numbers.Given as goal

abbrev pub invariant-loop-i : goal.invariant-loop-i
invariant-loop-i l = Flagged l.count l.numbers l.i l.projection.items
