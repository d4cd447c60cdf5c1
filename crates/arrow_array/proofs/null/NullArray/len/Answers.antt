use Rattle.arrow_array.proofs.Fits.{nulls}
use Rattle.arrow_array.proofs.Windows.{slots_are, count_slots}
use Rattle.arrow_array.proofs.null.NullArray.len.Goals as goal

pub returns : goal.returns
returns c = count_slots (nulls c.self.inside.count) (slots_are c.self.view_is)
