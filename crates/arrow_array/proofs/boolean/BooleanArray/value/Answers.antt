use Rattle.std.proofs.Common.{arith}
use Rattle.arrow_array.proofs.Fits.{booleans}
use Rattle.arrow_array.proofs.Windows.{slots_are, count_slots, read_made}
use Rattle.arrow_array.proofs.boolean.BooleanArray.value.Goals as goal

pub get-requires : goal.get-requires
get-requires c = let n = count_slots (booleans c.self.inside.values.booleans c.self.invariant) (slots_are c.self.view_is) in omega (arith, n, c.requires)

pub returns : goal.returns
returns c =
    let w = booleans c.self.inside.values.booleans c.self.invariant in
    let n = count_slots w (slots_are c.self.view_is) in
    rw c.get.ensures (read_made w (slots_are c.self.view_is) c.args.i (omega (arith, n, c.requires)))
