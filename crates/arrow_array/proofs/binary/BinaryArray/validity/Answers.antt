use Rattle.std.proofs.Common.{refl}
use Rattle.arrow_array.proofs.Fits.{binary}
use Rattle.arrow_array.proofs.Windows.{text_slots_are, validity_says}
use Rattle.arrow_array.proofs.binary.BinaryArray.validity.Goals as goal

pub returns : goal.returns
returns g c = rw c.as_ref.ensures.value (validity_says (binary c.self.inside.values c.self.invariant) (text_slots_are c.self.view_is) (λ i l. refl))
