use Rattle.std.proofs.Common.{refl}
use Rattle.arrow_array.proofs.Fits.{booleans}
use Rattle.arrow_array.proofs.Windows.{slots_are, validity_says}
use Rattle.arrow_array.proofs.boolean.BooleanArray.validity.Goals as goal

pub returns : goal.returns
returns c = rw c.as_ref.ensures.value (validity_says (booleans c.self.inside.values.booleans c.self.invariant) (slots_are c.self.view_is) (λ i l. refl))
