use Rattle.std.proofs.Common.{◌∙◌}
use Rattle.guide.proofs.Spare.{spare_for_rest}
use Rattle.guide.proofs.reserved.decode.Goals as goal

pub returns-clause-memory : goal.returns-clause-memory
returns-clause-memory c = λ n spare few bounded. c.deserialize_into.ensures.has_capacity (spare_for_rest n _ _ _ (c.new-cursor.ensures.rest ∙ c.as_slice.ensures) few spare) bounded
