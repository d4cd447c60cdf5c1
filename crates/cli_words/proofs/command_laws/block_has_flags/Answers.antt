use Rattle.cli_words.proofs.OneCommand.{block_each}
use Rattle.cli_words.proofs.command_laws.block_has_flags.Goals as goal

pub returns : goal.returns
returns c = block_each
