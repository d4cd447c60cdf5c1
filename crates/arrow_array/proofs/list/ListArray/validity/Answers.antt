use Rattle.arrow_array.proofs.ListSlots.{list_slots_are, lists_say}
use Rattle.arrow_array.proofs.list.ListArray.validity.Goals as goal

pub returns : goal.returns
returns c = rw c.as_ref.ensures.value (lists_say c.self.invariant (list_slots_are c.self.view_is))
