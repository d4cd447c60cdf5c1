use Rattle.arrow_array.proofs.Bits.{PackedBelow}
use Rattle.arrow_array.proofs.bitmap.pack.Given as goal

abbrev pub invariant-loop-i : goal.invariant-loop-i
invariant-loop-i l = PackedBelow l.words.items l.values l.i
