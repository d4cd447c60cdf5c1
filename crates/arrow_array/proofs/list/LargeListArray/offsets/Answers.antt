use Rattle.std.proofs.Common.{◌∙◌, arith, ap, length}
use Rattle.arrow_array.proofs.ListSlots.{count_lists, list_slots_are, list_offsets_are, list_items_are, read_list}
use Rattle.arrow_array.proofs.list.LargeListArray.offsets.Goals as goal

pub returns-clause-offsets : goal.returns-clause-offsets
returns-clause-offsets c = c.as_slice.ensures ∙ list_offsets_are c.self.view_is

pub returns-clause-fit : goal.returns-clause-fit
returns-clause-fit c = rw (c.as_slice.ensures, ← list_items_are c.self.view_is) c.self.invariant.offsets_fit

pub returns-clause-count : goal.returns-clause-count
returns-clause-count c = omega (arith, ap length c.as_slice.ensures, count_lists c.self.invariant (list_slots_are c.self.view_is), c.self.invariant.offsets_fit.filled)

pub returns-clause-slots : goal.returns-clause-slots
returns-clause-slots c = rw (c.as_slice.ensures, ← list_items_are c.self.view_is) (read_list c.self.invariant (list_slots_are c.self.view_is))
