use Rattle.arrow_convert.proofs.OneError.{one_error_comes}
use Rattle.arrow_convert.proofs.laws.rewriting_error.Goals as goal

pub returns : goal.returns
returns c = record { one_error = one_error_comes }
