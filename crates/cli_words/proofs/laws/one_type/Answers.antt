use Rattle.cli_words.proofs.OneMeaning.{one_type}
use Rattle.cli_words.proofs.laws.one_type.Goals as goal

pub returns : goal.returns
returns c = one_type
