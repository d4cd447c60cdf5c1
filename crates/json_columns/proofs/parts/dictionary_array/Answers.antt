use Rattle.std.proofs.Common.{[], ◌∷◌}
use Rattle.json_columns.proofs.parts.dictionary_array.Goals as goal

pub returns-clause-dictionaries : goal.returns-clause-dictionaries
returns-clause-dictionaries c = λ j. (c.in_ok-array.ensures.slots j, c.in_ok-array.ensures.items j) ∷ []
