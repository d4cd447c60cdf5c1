use Rattle.std.specs.Prelude.{slice_index}
use Rattle.avro_flat.proofs.TwosComplement.{SignedTo}
use Rattle.avro_flat.proofs.decimal.decimal_of.Given as goal

abbrev pub invariant-loop-i : goal.invariant-loop-i
invariant-loop-i l = SignedTo (slice_index l.bytes 0) l.rest l.i l.value
