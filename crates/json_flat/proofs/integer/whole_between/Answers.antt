use Rattle.json_flat.proofs.Bounds.{bounded}
use Rattle.json_flat.proofs.integer.whole_between.Goals as goal

pub returns : goal.returns
returns c = bounded c.whole.result c.args.low c.args.high _ c.ranges.low c.ranges.high c.whole.ensures
