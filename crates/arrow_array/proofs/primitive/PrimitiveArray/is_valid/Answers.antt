use Rattle.std.proofs.Common.{arith, ◌∙◌}
use Rattle.arrow_array.proofs.Fits.{natives}
use Rattle.arrow_array.proofs.Windows.{slots_are, count_slots, read_valid, native_held, slot_held}
use Rattle.arrow_array.proofs.primitive.PrimitiveArray.is_valid.Goals as goal

pub is_valid-requires-clause-fits : goal.is_valid-requires-clause-fits
is_valid-requires-clause-fits g c =
    let n = count_slots (natives g.T.NativeType.native_slot c.self.inside.values c.self.invariant) (slots_are c.self.view_is) in
    rw (c.len.ensures, ← n) c.self.invariant.validity_fits

pub is_valid-requires-clause-within : goal.is_valid-requires-clause-within
is_valid-requires-clause-within g c = omega (arith, c.len.ensures, c.requires)

pub returns : goal.returns
returns g c =
    let w = natives g.T.NativeType.native_slot c.self.inside.values c.self.invariant in
    let n = count_slots w (slots_are c.self.view_is) in
    c.is_valid.ensures ∙ read_valid w (slots_are c.self.view_is) c.args.i (omega (arith, n, c.requires))
    (native_held g.T.NativeType.native_slot (slot_held g.T.NativeType.native_slot g.T.NativeType.numbers g.met.T.NativeType.tells_slot) c.self.inside.values _ (omega (arith, n, c.requires)))
