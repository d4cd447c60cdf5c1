use Rattle.cli_words.proofs.PrintComplete.{printed_is_right}
use Rattle.cli_words.proofs.laws.printed_is_right.Goals as goal

pub returns : goal.returns
returns c = printed_is_right
