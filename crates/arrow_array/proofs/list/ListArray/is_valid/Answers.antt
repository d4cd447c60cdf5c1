use Rattle.std.proofs.Common.{◌∙◌}
use Rattle.arrow_array.proofs.ListSlots.{list_slots_are, count_lists, valid_list}
use Rattle.arrow_array.proofs.list.ListArray.is_valid.Goals as goal

pub is_valid-requires-clause-fits : goal.is_valid-requires-clause-fits
is_valid-requires-clause-fits c = rw (c.len.ensures, ← count_lists c.self.invariant (list_slots_are c.self.view_is)) c.self.invariant.validity_fits

pub returns : goal.returns
returns c = c.is_valid.ensures ∙ valid_list c.self.invariant (list_slots_are c.self.view_is) c.args.i c.requires
