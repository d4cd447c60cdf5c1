use Rattle.std.proofs.Common.{arith}
use Rattle.arrow_array.proofs.Fits.{fixed}
use Rattle.arrow_array.proofs.Windows.{slots_are, count_slots}
use Rattle.arrow_array.proofs.fixed_size_binary.FixedSizeBinaryArray.len.Goals as goal

pub nonzero_div-result : goal.nonzero_div-result
nonzero_div-result c = omega (arith, c.self.invariant.0.kind, c.self.invariant.1)

pub returns : goal.returns
returns c = rw (c.len.ensures, c.self.invariant.1) (count_slots (fixed c.self.inside.values c.self.invariant.0) (slots_are c.self.view_is))
