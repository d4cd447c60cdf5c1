use Rattle.arrow_array.proofs.Fits.{nulls}
use Rattle.arrow_array.proofs.Typed.{nulls_typed}
use Rattle.arrow_array.proofs.Windows.{slots_are, types_are}
use Rattle.arrow_array.proofs.null.NullArray.slots_are_typed.Goals as goal

pub returns : goal.returns
returns c = rw (← types_are c.self.view_is, c.self.invariant) (nulls_typed (nulls c.self.inside.count) (slots_are c.self.view_is))
