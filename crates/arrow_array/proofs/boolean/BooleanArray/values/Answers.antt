use Rattle.std.proofs.Common.{arith}
use Rattle.arrow_array.proofs.Fits.{booleans}
use Rattle.arrow_array.proofs.Windows.{slots_are, count_slots, read_made}
use Rattle.arrow_array.proofs.boolean.BooleanArray.values.Goals as goal

pub returns-clause-count : goal.returns-clause-count
returns-clause-count c = count_slots (booleans c.self.inside.values.booleans c.self.invariant) (slots_are c.self.view_is)

pub returns-clause-slots : goal.returns-clause-slots
returns-clause-slots c =
    let w = booleans c.self.inside.values.booleans c.self.invariant in
    let n = count_slots w (slots_are c.self.view_is) in
    λ k l h. read_made w (slots_are c.self.view_is) k (omega (arith, n, l)) h
