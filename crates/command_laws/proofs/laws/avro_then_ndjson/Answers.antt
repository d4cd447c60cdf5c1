use Rattle.command_laws.proofs.Shown.{lines_are_shown, shown_do_not_fail}
use Rattle.command_laws.proofs.laws.avro_then_ndjson.Goals as goal

pub returns-clause-lines : goal.returns-clause-lines
returns-clause-lines c = lines_are_shown

pub returns-clause-no_error : goal.returns-clause-no_error
returns-clause-no_error c = shown_do_not_fail
