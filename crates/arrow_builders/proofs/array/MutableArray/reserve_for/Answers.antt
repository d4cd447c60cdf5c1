use Rattle.arrow_builders.proofs.Heads.{same_kind, same_type, same_slots}
use Rattle.arrow_builders.proofs.NullsTight.{same_tight}
use Rattle.arrow_builders.proofs.array.MutableArray.reserve_for.Goals as goal

pub returns-clause-kind : goal.returns-clause-kind
returns-clause-kind c = same_kind c.args.self.now c.reserve_nodes.new.self c.reserve_nodes.ensures.same_shape

pub returns-clause-data_type : goal.returns-clause-data_type
returns-clause-data_type c = same_type c.args.self.now c.reserve_nodes.new.self c.reserve_nodes.ensures.same_shape

pub returns-clause-slots : goal.returns-clause-slots
returns-clause-slots c = same_slots c.args.self.now c.reserve_nodes.new.self c.reserve_nodes.ensures.same_slots

pub returns-clause-tight : goal.returns-clause-tight
returns-clause-tight c = same_tight c.args.self.now c.reserve_nodes.new.self c.reserve_nodes.ensures.same_shape c.reserve_nodes.ensures.same_slots
