use Rattle.std.proofs.Common.{arith}
use Rattle.arrow_array.proofs.ListSlots.{list_slots_are, count_lists}
use Rattle.arrow_array.proofs.list.ListArray.len.Goals as goal

pub returns : goal.returns
returns c = omega (arith, c.len.ensures, count_lists c.self.invariant (list_slots_are c.self.view_is))
