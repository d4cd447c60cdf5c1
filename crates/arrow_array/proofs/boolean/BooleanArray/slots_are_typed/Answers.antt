use Rattle.arrow_array.proofs.Fits.{booleans}
use Rattle.arrow_array.proofs.Typed.{booleans_typed}
use Rattle.arrow_array.proofs.Windows.{slots_are, types_are}
use Rattle.arrow_array.proofs.boolean.BooleanArray.slots_are_typed.Goals as goal

pub returns : goal.returns
returns c = rw (← types_are c.self.view_is) (booleans_typed _ c.self.invariant.kind _ (booleans c.self.inside.values.booleans c.self.invariant) (slots_are c.self.view_is))
