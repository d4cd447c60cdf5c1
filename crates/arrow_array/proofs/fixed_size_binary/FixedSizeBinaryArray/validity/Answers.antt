use Rattle.std.proofs.Common.{refl}
use Rattle.arrow_array.proofs.Fits.{fixed}
use Rattle.arrow_array.proofs.Windows.{slots_are, validity_says}
use Rattle.arrow_array.proofs.fixed_size_binary.FixedSizeBinaryArray.validity.Goals as goal

pub returns : goal.returns
returns c = rw c.as_ref.ensures.value (validity_says (fixed c.self.inside.values c.self.invariant.0) (slots_are c.self.view_is) (λ i l. refl))
