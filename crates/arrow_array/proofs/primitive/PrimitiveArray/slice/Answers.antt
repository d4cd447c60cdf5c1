use Rattle.std.proofs.Common.{arith}
use Rattle.arrow_array.proofs.Cuts.{cut_made_slots, length_cut, native_cut}
use Rattle.arrow_array.proofs.Fits.{natives}
use Rattle.arrow_array.proofs.Windows.{slots_are, count_slots}
use Rattle.arrow_array.specs.Slots.{native_at}
use Rattle.arrow_array.proofs.primitive.PrimitiveArray.slice.Goals as goal

pub slice_with_type-parts-requires-clause-fits : goal.slice_with_type-parts-requires-clause-fits
slice_with_type-parts-requires-clause-fits g c =
    let n = count_slots (natives g.T.NativeType.native_slot c.self.inside.values c.self.invariant) (slots_are c.self.view_is) in
    rw (c.len-len.ensures, ← n) c.self.invariant.validity_fits

pub slice-requires : goal.slice-requires
slice-requires g c = let n = count_slots (natives g.T.NativeType.native_slot c.self.inside.values c.self.invariant) (slots_are c.self.view_is) in omega (arith, n, c.requires)

pub returns-clause-slots : goal.returns-clause-slots
returns-clause-slots g c =
    let w = natives g.T.NativeType.native_slot c.self.inside.values c.self.invariant in
    let n = count_slots w (slots_are c.self.view_is) in
    let values = rw c.in_ok-values.ensures.first at c.slice.ensures.values in
    let cut = rw c.in_ok-values.ensures.second at c.slice_with_type-parts.ensures.cut in
    rw values (cut_made_slots w (slots_are c.self.view_is) (native_at g.T.NativeType.native_slot _) c.in_ok-values.validity c.args.offset c.args.count _
    (length_cut c.args.offset c.args.count c.self.inside.values (omega (arith, n, c.requires))) (omega (arith, n, c.requires)) cut
    (native_cut g.T.NativeType.native_slot c.args.offset c.args.count c.self.inside.values))
