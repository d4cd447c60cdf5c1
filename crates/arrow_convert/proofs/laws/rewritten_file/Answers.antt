use Rattle.arrow_convert.proofs.RewrittenAgain.{rewritten_is_file}
use Rattle.arrow_convert.proofs.RewrittenWritable.{rewritten_is_writable}
use Rattle.arrow_convert.proofs.laws.rewritten_file.Goals as goal

pub returns-clause-file : goal.returns-clause-file
returns-clause-file c = rewritten_is_file

pub returns-clause-writable : goal.returns-clause-writable
returns-clause-writable c = rewritten_is_writable
