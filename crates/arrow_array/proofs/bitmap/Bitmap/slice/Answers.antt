use Rattle.std.proofs.Common.{arith}
use Rattle.arrow_array.proofs.Bits.{count_is, cut_booleans}
use Rattle.arrow_array.proofs.bitmap.Bitmap.slice.Goals as goal

pub overflow_add-result : goal.overflow_add-result
overflow_add-result c = let n = count_is _ _ _ _ c.self.view_is in omega (arith, n, c.requires, c.self.invariant.1)

pub invariant_of-result : goal.invariant_of-result
invariant_of-result c = let n = count_is _ _ _ _ c.self.view_is in rw c.in_ok-words.ensures.cases (omega (arith, n, c.requires, c.self.invariant.0), omega (arith, n, c.requires, c.self.invariant.1))

pub returns-clause-booleans : goal.returns-clause-booleans
returns-clause-booleans c = let n = count_is _ _ _ _ c.self.view_is in rw c.in_ok-words.ensures.cases (cut_booleans _ _ _ _ c.self.view_is _ _ (omega (arith, n, c.requires)))
