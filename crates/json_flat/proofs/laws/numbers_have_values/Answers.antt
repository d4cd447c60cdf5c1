use Rattle.json_flat.proofs.NumberTexts.{has-value}
use Rattle.json_flat.proofs.laws.numbers_have_values.Goals as goal

pub returns : goal.returns
returns c = has-value
