use Rattle.avrocat_commands.proofs.Endings.{none_due}
use Rattle.avrocat_commands.proofs.laws.no_error_is_due_to_what_can_be_done.Goals as goal

pub returns : goal.returns
returns c = none_due
