use Rattle.arrow_core.proofs.EqualTypes.{types_equal}
use Rattle.arrow_core.proofs.types.DataType.is_same.Goals as goal

pub returns : goal.returns
returns c = rw c.eq.ensures (types_equal c.args.self.now c.args.other.now)
