use Rattle.arrow_builders.specs.MutableArrays.{nodes}
use Rattle.arrow_builders.proofs.Heads.{same_kind, same_type, no_slots}
use Rattle.arrow_builders.proofs.TightLaws.{emptied, empty_tight}
use Rattle.arrow_builders.proofs.array.MutableArray.clear.Goals as goal

pub returns-clause-kind : goal.returns-clause-kind
returns-clause-kind c = same_kind c.args.self.now c.clear_nodes.new.self c.clear_nodes.ensures.same_shape

pub returns-clause-data_type : goal.returns-clause-data_type
returns-clause-data_type c = same_type c.args.self.now c.clear_nodes.new.self c.clear_nodes.ensures.same_shape

pub returns-clause-slots : goal.returns-clause-slots
returns-clause-slots c = no_slots c.clear_nodes.new.self (emptied (nodes c.args.self.now) (nodes c.clear_nodes.new.self) c.clear_nodes.ensures.capacity)

pub returns-clause-tight : goal.returns-clause-tight
returns-clause-tight c = empty_tight c.clear_nodes.new.self (emptied (nodes c.args.self.now) (nodes c.clear_nodes.new.self) c.clear_nodes.ensures.capacity)
