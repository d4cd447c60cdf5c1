use Rattle.cli_words.proofs.PrintLaws.{printed_is_word}
use Rattle.cli_words.proofs.laws.printed_is_word.Goals as goal

pub returns : goal.returns
returns c = printed_is_word
