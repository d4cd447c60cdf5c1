use Rattle.cli_words.proofs.OneMeaning.{one_field}
use Rattle.cli_words.proofs.laws.one_field.Goals as goal

pub returns : goal.returns
returns c = one_field
