use Rattle.arrow_array.proofs.ListSlots.{list_types_are}
use Rattle.arrow_array.proofs.list.ListArray.values.Goals as goal

pub returns-clause-data_type : goal.returns-clause-data_type
returns-clause-data_type c = rw (c.get.ensures, ← list_types_are c.self.view_is) c.self.invariant.kind
