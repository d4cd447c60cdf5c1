use Rattle.std.proofs.Common.{arith}
use Rattle.std.proofs.lemmas.List.{length-map}
use Rattle.arrow_array.proofs.Fits.{binary}
use Rattle.arrow_array.proofs.Windows.{text_slots_are, count_slots, read_made}
use Rattle.arrow_array.proofs.binary.BinaryArray.value.Goals as goal

pub part_of-requires-clause-offsets : goal.part_of-requires-clause-offsets
part_of-requires-clause-offsets g c = rw (c.as_slice.ensures, c.as_slice-2.ensures) c.self.invariant.offsets_fit

pub part_of-requires-clause-within : goal.part_of-requires-clause-within
part_of-requires-clause-within g c =
    let n = count_slots (binary c.self.inside.values c.self.invariant) (text_slots_are c.self.view_is) in
    rw c.as_slice.ensures (omega (arith, n, c.requires, c.self.invariant.offsets_fit.filled, length-map c.self.inside.offsets g.O.Offset.number))

pub returns : goal.returns
returns g c =
    let w = binary c.self.inside.values c.self.invariant in
    let n = count_slots w (text_slots_are c.self.view_is) in
    rw (c.part_of.ensures, c.as_slice.ensures, c.as_slice-2.ensures) (read_made w (text_slots_are c.self.view_is) c.args.i (omega (arith, n, c.requires)))
