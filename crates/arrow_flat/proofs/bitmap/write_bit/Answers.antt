use Rattle.std.proofs.Common.{arith}
use Rattle.arrow_flat.proofs.Bits.{written_here, written_apart}
use Rattle.arrow_flat.proofs.bitmap.write_bit.Goals as goal

pub returns-clause-written : goal.returns-clause-written
returns-clause-written c = written_here c.args.words.now.items _ _ c.args.value (omega arith) c.index-word.ensures c.requires.clear

pub returns-clause-others : goal.returns-clause-others
returns-clause-others c = λ k ne. written_apart c.args.words.now.items _ _ k c.args.value (omega arith) c.index-word.ensures ne
