use Rattle.std.proofs.Common.{◌∙◌}
use Rattle.arrow_array.proofs.Fits.{natives}
use Rattle.arrow_array.proofs.Windows.{slots_are, count_slots}
use Rattle.arrow_array.proofs.primitive.PrimitiveArray.len.Goals as goal

pub returns : goal.returns
returns g c = c.len.ensures ∙ count_slots (natives g.T.NativeType.native_slot c.self.inside.values c.self.invariant) (slots_are c.self.view_is)
