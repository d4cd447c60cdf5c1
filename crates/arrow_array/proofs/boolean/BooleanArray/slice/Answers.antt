use Rattle.std.proofs.Common.{arith}
use Rattle.arrow_array.proofs.Cuts.{cut_made_slots, length_cut, boolean_cut}
use Rattle.arrow_array.proofs.Fits.{booleans}
use Rattle.arrow_array.proofs.Windows.{slots_are, count_slots}
use Rattle.arrow_array.specs.Slots.{boolean_at}
use Rattle.arrow_array.proofs.boolean.BooleanArray.slice.Goals as goal

pub slice_with_type-parts-requires-clause-fits : goal.slice_with_type-parts-requires-clause-fits
slice_with_type-parts-requires-clause-fits c =
    let n = count_slots (booleans c.self.inside.values.booleans c.self.invariant) (slots_are c.self.view_is) in
    rw (c.len-len.ensures, ← n) c.self.invariant.validity_fits

pub slice-requires : goal.slice-requires
slice-requires c = let n = count_slots (booleans c.self.inside.values.booleans c.self.invariant) (slots_are c.self.view_is) in omega (arith, n, c.requires)

pub returns-clause-slots : goal.returns-clause-slots
returns-clause-slots c =
    let w = booleans c.self.inside.values.booleans c.self.invariant in
    let n = count_slots w (slots_are c.self.view_is) in
    let cut = rw c.in_ok-values.ensures.second at c.slice_with_type-parts.ensures.cut in
    let values = rw c.in_ok-values.ensures.first at c.slice.ensures.booleans in
    rw values (cut_made_slots w (slots_are c.self.view_is) (boolean_at _) c.in_ok-values.validity c.args.offset c.args.count _
    (length_cut c.args.offset c.args.count c.self.inside.values.booleans (omega (arith, n, c.requires))) (omega (arith, n, c.requires)) cut
    (boolean_cut c.args.offset c.args.count c.self.inside.values.booleans))
