use Rattle.arrow_builders.proofs.Heads.{same_kind, same_type}
use Rattle.arrow_builders.proofs.NullsTight.{null_slot, pushed_null_tight}
use Rattle.arrow_builders.proofs.array.MutableArray.push_null.Goals as goal

pub returns-clause-kind : goal.returns-clause-kind
returns-clause-kind c = same_kind c.args.self.now c.append_any_null.new.self c.append_any_null.ensures.nulls.same_shape

pub returns-clause-data_type : goal.returns-clause-data_type
returns-clause-data_type c = same_type c.args.self.now c.append_any_null.new.self c.append_any_null.ensures.nulls.same_shape

pub returns-clause-ok : goal.returns-clause-ok
returns-clause-ok c = null_slot c.append_any_null.result c.args.self.now c.append_any_null.new.self c.append_any_null.ensures.nulls.below

pub returns-clause-tight : goal.returns-clause-tight
returns-clause-tight c = pushed_null_tight c.append_any_null.result c.args.self.now c.append_any_null.new.self c.append_any_null.ensures.nulls.same_shape c.append_any_null.ensures.nulls.below
