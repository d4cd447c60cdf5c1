use Rattle.std.proofs.Common.{arith}
use Rattle.arrow_array.proofs.Fits.{natives}
use Rattle.arrow_array.proofs.Windows.{slots_are, validity_says, native_held, slot_held}
use Rattle.arrow_array.proofs.primitive.PrimitiveArray.validity.Goals as goal

pub returns : goal.returns
returns g c = rw c.as_ref.ensures.value (validity_says (natives g.T.NativeType.native_slot c.self.inside.values c.self.invariant) (slots_are c.self.view_is)
    (λ i l. native_held g.T.NativeType.native_slot (slot_held g.T.NativeType.native_slot g.T.NativeType.numbers g.met.T.NativeType.tells_slot) c.self.inside.values _ (omega (arith, l))))
