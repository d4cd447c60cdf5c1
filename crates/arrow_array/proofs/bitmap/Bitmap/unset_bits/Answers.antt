use Rattle.arrow_array.proofs.Bits.{unset_count}
use Rattle.arrow_array.proofs.bitmap.Bitmap.unset_bits.Goals as goal

pub overflow_sub-result : goal.overflow_sub-result
overflow_sub-result c = (unset_count _ _ _ _ c.self.view_is c.set_bits.result (rw c.as_slice.ensures.value at c.set_bits.ensures)).0

pub returns : goal.returns
returns c = (unset_count _ _ _ _ c.self.view_is c.set_bits.result (rw c.as_slice.ensures.value at c.set_bits.ensures)).1
