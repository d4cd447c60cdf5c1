use Rattle.std.proofs.Common.{arith}
use Rattle.arrow_array.proofs.Fits.{natives}
use Rattle.arrow_array.proofs.Typed.{natives_typed}
use Rattle.arrow_array.proofs.Windows.{slots_are, types_are}
use Rattle.arrow_array.proofs.primitive.PrimitiveArray.slots_are_typed.Goals as goal

pub returns : goal.returns
returns g c =
    let all = rw c.as_slice.ensures at c.tell_ranges.ensures in
    rw (← types_are c.self.view_is) (natives_typed g.T.NativeType.native_slot g.T.NativeType.PRIMITIVE _ c.self.invariant.kind _ all (natives g.T.NativeType.native_slot c.self.inside.values c.self.invariant) (omega arith) (slots_are c.self.view_is))
