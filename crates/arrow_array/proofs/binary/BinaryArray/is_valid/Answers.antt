use Rattle.std.proofs.Common.{arith, refl, ◌∙◌}
use Rattle.arrow_array.proofs.Fits.{binary}
use Rattle.arrow_array.proofs.Windows.{text_slots_are, count_slots, read_valid}
use Rattle.arrow_array.proofs.binary.BinaryArray.is_valid.Goals as goal

pub is_valid-requires-clause-fits : goal.is_valid-requires-clause-fits
is_valid-requires-clause-fits g c =
    let n = count_slots (binary c.self.inside.values c.self.invariant) (text_slots_are c.self.view_is) in
    rw (c.len.ensures, ← n) c.self.invariant.validity_fits

pub is_valid-requires-clause-within : goal.is_valid-requires-clause-within
is_valid-requires-clause-within g c = omega (arith, c.len.ensures, c.requires)

pub returns : goal.returns
returns g c =
    let w = binary c.self.inside.values c.self.invariant in
    let n = count_slots w (text_slots_are c.self.view_is) in
    c.is_valid.ensures ∙ read_valid w (text_slots_are c.self.view_is) c.args.i (omega (arith, n, c.requires)) refl
