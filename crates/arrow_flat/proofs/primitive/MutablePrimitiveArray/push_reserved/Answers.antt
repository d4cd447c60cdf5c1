use Rattle.arrow_flat.proofs.Slots.{natives_at-push}
use Rattle.arrow_flat.proofs.primitive.MutablePrimitiveArray.push_reserved.Goals as goal

pub returns-clause-slots : goal.returns-clause-slots
returns-clause-slots g c = rw (← c.self.view_is) (natives_at-push g.T.NativeType.native_slot _ _ _ _ _ _ c.self.invariant.0
    c.push_reserved.ensures.items c.push_valid_reserved.ensures.items)
