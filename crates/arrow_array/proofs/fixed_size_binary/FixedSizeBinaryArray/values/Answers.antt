use Rattle.std.proofs.Common.{arith, length, div-add-mod'}
use Rattle.arrow_array.specs.Parts.{byte_width}
use Rattle.arrow_array.proofs.Fits.{fixed}
use Rattle.arrow_array.proofs.Windows.{slots_are, types_are, count_slots, read_made}
use Rattle.arrow_array.proofs.fixed_size_binary.FixedSizeBinaryArray.values.Goals as goal

pub returns-clause-count : goal.returns-clause-count
returns-clause-count c =
    let n = count_slots (fixed c.self.inside.values c.self.invariant.0) (slots_are c.self.view_is) in
    rw (c.as_slice.ensures, ← types_are c.self.view_is, ← n)
    (omega (arith, div-add-mod' (length c.self.inside.values) (byte_width c.self.inside.data_type), c.self.invariant.0.whole_slots))

pub returns-clause-slots : goal.returns-clause-slots
returns-clause-slots c =
    let w = fixed c.self.inside.values c.self.invariant.0 in
    let n = count_slots w (slots_are c.self.view_is) in
    rw (c.as_slice.ensures, ← types_are c.self.view_is) (λ k l h. read_made w (slots_are c.self.view_is) k (omega (arith, n, l)) h)
