use Rattle.arrow_convert.proofs.RewrittenAgain.{rewritten_is_same, rewritten_does_not_fail}
use Rattle.arrow_convert.proofs.laws.rewritten_twice.Goals as goal

pub returns-clause-same : goal.returns-clause-same
returns-clause-same c = rewritten_is_same

pub returns-clause-no_error : goal.returns-clause-no_error
returns-clause-no_error c = rewritten_does_not_fail
