use Rattle.std.proofs.Common.{subst, false}
use Rattle.arrow_array.specs.Kinds.{IsListType}
use Rattle.arrow_array.proofs.ListSlots.{list_types_are}
use Rattle.arrow_array.proofs.list.ListArray.data_type.Goals as goal

pub returns-clause-kind : goal.returns-clause-kind
returns-clause-kind c = subst (IsListType false) (list_types_are c.self.view_is) (c.self.invariant.kind.0, c.self.invariant.kind.1)
