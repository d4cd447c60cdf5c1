use Rattle.arrow_flat.proofs.Slots.{booleans_at-push}
use Rattle.arrow_flat.proofs.boolean.MutableBooleanArray.push_reserved.Goals as goal

pub returns-clause-slots : goal.returns-clause-slots
returns-clause-slots c = rw (← c.self.view_is) (booleans_at-push _ _ _ _ _ _ c.self.invariant.0
    c.push_reserved.ensures.items c.push_valid_reserved.ensures.items)
