use Rattle.arrow_array.specs.Arrays.{array_slots}
use Rattle.arrow_array.proofs.FixedLists.{fixed_say}
use Rattle.arrow_array.proofs.Windows.{nested_slots_are}
use Rattle.arrow_array.proofs.fixed_size_list.FixedSizeListArray.validity.Goals as goal

pub returns : goal.returns
returns c = rw c.as_ref.ensures.value (fixed_say (array_slots c.self.inside.values) c.self.invariant (nested_slots_are c.self.view_is))
