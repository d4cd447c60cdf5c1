use Rattle.arrow_array.proofs.Bits.{count_is}
use Rattle.arrow_array.proofs.bitmap.Bitmap.len.Goals as goal

pub returns : goal.returns
returns c = count_is _ _ _ _ c.self.view_is
