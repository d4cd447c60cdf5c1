use Rattle.arrow_convert.proofs.LinesBack.{lines_are_file, lines_come_back, lines_do_not_fail}
use Rattle.arrow_convert.proofs.LinesWritable.{shallow_records_are_writable}
use Rattle.arrow_convert.proofs.Numbers.{records_are_writable}
use Rattle.arrow_convert.proofs.laws.lines_and_back.Goals as goal

pub returns-clause-file : goal.returns-clause-file
returns-clause-file c = lines_are_file

pub returns-clause-lines : goal.returns-clause-lines
returns-clause-lines c = lines_come_back

pub returns-clause-no_error : goal.returns-clause-no_error
returns-clause-no_error c = lines_do_not_fail

pub returns-clause-writable : goal.returns-clause-writable
returns-clause-writable c = records_are_writable

pub returns-clause-shallow : goal.returns-clause-shallow
returns-clause-shallow c = shallow_records_are_writable
