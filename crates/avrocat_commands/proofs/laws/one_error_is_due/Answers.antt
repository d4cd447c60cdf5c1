use Rattle.avrocat_commands.proofs.Endings.{one_due}
use Rattle.avrocat_commands.proofs.laws.one_error_is_due.Goals as goal

pub returns : goal.returns
returns c = one_due
