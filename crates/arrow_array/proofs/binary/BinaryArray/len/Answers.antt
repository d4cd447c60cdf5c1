use Rattle.std.proofs.Common.{arith}
use Rattle.std.proofs.lemmas.List.{length-map}
use Rattle.arrow_array.proofs.Fits.{binary}
use Rattle.arrow_array.proofs.Windows.{text_slots_are, count_slots}
use Rattle.arrow_array.proofs.binary.BinaryArray.len.Goals as goal

pub returns : goal.returns
returns g c =
    let n = count_slots (binary c.self.inside.values c.self.invariant) (text_slots_are c.self.view_is) in
    omega (arith, c.len.ensures, n, length-map c.self.inside.offsets g.O.Offset.number)
