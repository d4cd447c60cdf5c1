use Rattle.std.proofs.Common.{arith, ap, length}
use Rattle.std.proofs.lemmas.List.{length-map}
use Rattle.arrow_array.specs.Columns.{ContentColumn}
use Rattle.arrow_array.proofs.Fits.{binary}
use Rattle.arrow_array.proofs.Windows.{text_slots_are, count_slots, read_made}
use Rattle.arrow_array.proofs.binary.BinaryArray.offsets.Goals as goal

pub returns-clause-fit : goal.returns-clause-fit
returns-clause-fit g c = rw (c.as_slice.ensures, ← ap (λ (a : ContentColumn). a.bytes) c.self.view_is) c.self.invariant.offsets_fit

pub returns-clause-count : goal.returns-clause-count
returns-clause-count g c = omega (arith, ap length c.as_slice.ensures, count_slots (binary c.self.inside.values c.self.invariant) (text_slots_are c.self.view_is), c.self.invariant.offsets_fit.filled, length-map c.self.inside.offsets g.O.Offset.number)

pub returns-clause-slots : goal.returns-clause-slots
returns-clause-slots g c =
    let w = binary c.self.inside.values c.self.invariant in
    rw (c.as_slice.ensures, ← ap (λ (a : ContentColumn). a.bytes) c.self.view_is)
    (λ k l h. read_made w (text_slots_are c.self.view_is) k (omega (arith, count_slots w (text_slots_are c.self.view_is), l)) h)
