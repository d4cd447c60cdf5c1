use Rattle.std.proofs.Common.{arith}
use Rattle.arrow_flat.proofs.Slots.{nulls_at-push}
use Rattle.arrow_flat.proofs.null.MutableNullArray.push_null.Goals as goal

pub returns-clause-ok : goal.returns-clause-ok
returns-clause-ok c = rw (← c.self.view_is) (nulls_at-push c.self.inside.count _ (omega (arith, c.in-Some.ensures)))
