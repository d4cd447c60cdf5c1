use Rattle.std.proofs.Common.{◌∙◌}
use Rattle.arrow_array.proofs.Fits.{booleans}
use Rattle.arrow_array.proofs.Windows.{slots_are, count_slots}
use Rattle.arrow_array.proofs.boolean.BooleanArray.len.Goals as goal

pub returns : goal.returns
returns c = c.len.ensures ∙ count_slots (booleans c.self.inside.values.booleans c.self.invariant) (slots_are c.self.view_is)
