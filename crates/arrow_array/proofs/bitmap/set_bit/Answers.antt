use Rattle.arrow_array.proofs.Bits.{set_here, set_apart}
use Rattle.arrow_array.proofs.bitmap.set_bit.Goals as goal

pub returns-clause-set : goal.returns-clause-set
returns-clause-set c = set_here _ _ c.requires

pub returns-clause-others : goal.returns-clause-others
returns-clause-others c = λ k ne. set_apart _ _ k c.requires ne
