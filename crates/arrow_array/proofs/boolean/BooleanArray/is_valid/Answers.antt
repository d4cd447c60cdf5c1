use Rattle.std.proofs.Common.{arith, refl, ◌∙◌}
use Rattle.arrow_array.proofs.Fits.{booleans}
use Rattle.arrow_array.proofs.Windows.{slots_are, count_slots, read_valid}
use Rattle.arrow_array.proofs.boolean.BooleanArray.is_valid.Goals as goal

pub is_valid-requires-clause-within : goal.is_valid-requires-clause-within
is_valid-requires-clause-within c = let n = count_slots (booleans c.self.inside.values.booleans c.self.invariant) (slots_are c.self.view_is) in omega (arith, n, c.len.ensures, c.requires)

pub returns : goal.returns
returns c =
    let w = booleans c.self.inside.values.booleans c.self.invariant in
    let n = count_slots w (slots_are c.self.view_is) in
    c.is_valid.ensures ∙ read_valid w (slots_are c.self.view_is) c.args.i (omega (arith, n, c.requires)) refl
