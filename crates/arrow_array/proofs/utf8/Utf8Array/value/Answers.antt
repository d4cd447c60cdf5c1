use Rattle.std.proofs.Common.{arith}
use Rattle.std.proofs.lemmas.List.{length-map}
use Rattle.arrow_array.proofs.Fits.{texts}
use Rattle.arrow_array.proofs.Windows.{text_slots_are, count_slots, read_made}
use Rattle.arrow_array.proofs.utf8.Utf8Array.value.Goals as goal

pub part_of-string-requires-clause-offsets : goal.part_of-string-requires-clause-offsets
part_of-string-requires-clause-offsets g c = rw (c.as_slice.ensures, c.as_slice-2.ensures) c.self.invariant.offsets_fit

pub part_of-string-requires-clause-within : goal.part_of-string-requires-clause-within
part_of-string-requires-clause-within g c =
    let n = count_slots (texts c.self.invariant) (text_slots_are c.self.view_is) in
    rw c.as_slice.ensures (omega (arith, n, c.requires, c.self.invariant.offsets_fit.filled, length-map c.self.inside.offsets g.O.Offset.number))

pub from_utf8_unchecked-requires : goal.from_utf8_unchecked-requires
from_utf8_unchecked-requires g c =
    let n = count_slots (texts c.self.invariant) (text_slots_are c.self.view_is) in
    rw (c.part_of-string.ensures, c.as_slice.ensures, c.as_slice-2.ensures) (c.self.invariant.utf8_fit c.args.i (omega (arith, n, c.requires)))

pub returns : goal.returns
returns g c =
    let w = texts c.self.invariant in
    let n = count_slots w (text_slots_are c.self.view_is) in
    rw (c.from_utf8_unchecked.ensures, c.part_of-string.ensures, c.as_slice.ensures, c.as_slice-2.ensures) (read_made w (text_slots_are c.self.view_is) c.args.i (omega (arith, n, c.requires)))
