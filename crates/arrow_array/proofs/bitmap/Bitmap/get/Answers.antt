use Rattle.std.proofs.Common.{arith}
use Rattle.arrow_array.proofs.Bits.{count_is, read_bit}
use Rattle.arrow_array.proofs.bitmap.Bitmap.get.Goals as goal

pub overflow_add-bit : goal.overflow_add-bit
overflow_add-bit c = let n = count_is _ _ _ _ c.self.view_is in omega (arith, n, c.requires, c.self.invariant.1)

pub bounds-words-bit : goal.bounds-words-bit
bounds-words-bit c = let n = count_is _ _ _ _ c.self.view_is in rw c.as_slice-words.ensures.value omega (arith, n, c.requires, c.self.invariant.0)

pub returns : goal.returns
returns c = let n = count_is _ _ _ _ c.self.view_is in rw c.as_slice-words.ensures.value (read_bit _ _ _ _ c.self.view_is _ (omega (arith, n, c.requires)))
