use Rattle.arrow_flat.proofs.ListOffsets.{hold_rising}
use Rattle.arrow_flat.proofs.lists.MutableLists.take.Goals as goal

pub returns-clause-rising : goal.returns-clause-rising
returns-clause-rising g c = rw c.replace-offsets.ensures.value (hold_rising g.O.Offset.IS_LARGE _ _ _ c.self.invariant)
