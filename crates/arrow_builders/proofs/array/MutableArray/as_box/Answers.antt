use Rattle.arrow_builders.proofs.Heads.{same_kind, same_type}
use Rattle.arrow_builders.proofs.TightLaws.{boxed_slots, boxed_tight, no_refusal}
use Rattle.arrow_builders.proofs.array.MutableArray.as_box.Goals as goal

pub returns-clause-kind : goal.returns-clause-kind
returns-clause-kind c = same_kind c.args.self.now c.box_nodes.new.self c.box_nodes.ensures.same_shape

pub returns-clause-data_type : goal.returns-clause-data_type
returns-clause-data_type c = same_type c.args.self.now c.box_nodes.new.self c.box_nodes.ensures.same_shape

pub returns-clause-slots : goal.returns-clause-slots
returns-clause-slots c = boxed_slots c.box_nodes.result c.box_nodes.new.self c.box_nodes.ensures.emptied

pub returns-clause-tight : goal.returns-clause-tight
returns-clause-tight c = boxed_tight c.box_nodes.result c.box_nodes.new.self c.box_nodes.ensures.emptied

pub returns-clause-memory : goal.returns-clause-memory
returns-clause-memory c = no_refusal c.args.self.now c.box_nodes.result c.box_nodes.ensures.err
