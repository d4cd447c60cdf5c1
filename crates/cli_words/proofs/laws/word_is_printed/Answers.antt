use Rattle.cli_words.proofs.PrintComplete.{word_is_printed}
use Rattle.cli_words.proofs.laws.word_is_printed.Goals as goal

pub returns : goal.returns
returns c = word_is_printed
