use Rattle.cli_words.proofs.OneCommand.{one_command}
use Rattle.cli_words.proofs.command_laws.one_command.Goals as goal

pub returns : goal.returns
returns c = one_command
