use Rattle.std.proofs.Common.{rules}
use Rattle.arrow_base.proofs.Listed.{none-among}
use Rattle.arrow_base.proofs.calls.Calls.is_next_to_fail.Goals as goal

pub returns-in-None-clause-listed : goal.returns-in-None-clause-listed
returns-in-None-clause-listed c = none-among _ _ _ (λ i. search rules) c.as_slice-failing.ensures c.in-None.ensures
