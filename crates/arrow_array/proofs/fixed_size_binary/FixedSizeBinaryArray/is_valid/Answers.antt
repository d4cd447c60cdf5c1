use Rattle.std.proofs.Common.{arith, refl, ◌∙◌}
use Rattle.arrow_array.proofs.Fits.{fixed}
use Rattle.arrow_array.proofs.Windows.{slots_are, count_slots, read_valid}
use Rattle.arrow_array.proofs.fixed_size_binary.FixedSizeBinaryArray.is_valid.Goals as goal

pub is_valid-requires-clause-fits : goal.is_valid-requires-clause-fits
is_valid-requires-clause-fits c =
    let n = count_slots (fixed c.self.inside.values c.self.invariant.0) (slots_are c.self.view_is) in
    rw (c.len.ensures, ← n) c.self.invariant.0.validity_fits

pub is_valid-requires-clause-within : goal.is_valid-requires-clause-within
is_valid-requires-clause-within c = omega (arith, c.len.ensures, c.requires)

pub returns : goal.returns
returns c =
    let w = fixed c.self.inside.values c.self.invariant.0 in
    let n = count_slots w (slots_are c.self.view_is) in
    c.is_valid.ensures ∙ read_valid w (slots_are c.self.view_is) c.args.i (omega (arith, n, c.requires)) refl
