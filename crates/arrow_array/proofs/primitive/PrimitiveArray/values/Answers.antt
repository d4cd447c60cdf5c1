use Rattle.std.proofs.Common.{arith, ap, length, ◌∙◌}
use Rattle.arrow_array.proofs.Fits.{natives}
use Rattle.arrow_array.proofs.Windows.{slots_are, count_slots, read_made}
use Rattle.arrow_array.proofs.primitive.PrimitiveArray.values.Goals as goal

pub returns-clause-count : goal.returns-clause-count
returns-clause-count g c = ap length c.as_slice.ensures ∙ count_slots (natives g.T.NativeType.native_slot c.self.inside.values c.self.invariant) (slots_are c.self.view_is)

pub returns-clause-slots : goal.returns-clause-slots
returns-clause-slots g c =
    let w = natives g.T.NativeType.native_slot c.self.inside.values c.self.invariant in
    let n = count_slots w (slots_are c.self.view_is) in
    rw c.as_slice.ensures (λ k l h. read_made w (slots_are c.self.view_is) k (omega (arith, n, l)) h)
