use Rattle.std.proofs.Common.{arith}
use Rattle.arrow_array.proofs.Fits.{natives}
use Rattle.arrow_array.proofs.Windows.{slots_are, count_slots, read_native}
use Rattle.arrow_array.proofs.primitive.PrimitiveArray.value.Goals as goal

pub offset_bounds-as_slice-i : goal.offset_bounds-as_slice-i
offset_bounds-as_slice-i g c = let n = count_slots (natives g.T.NativeType.native_slot c.self.inside.values c.self.invariant) (slots_are c.self.view_is) in rw c.as_slice.ensures (omega (arith, n, c.requires))

pub bounds-as_slice-i : goal.bounds-as_slice-i
bounds-as_slice-i g c = let n = count_slots (natives g.T.NativeType.native_slot c.self.inside.values c.self.invariant) (slots_are c.self.view_is) in rw c.as_slice.ensures (omega (arith, n, c.requires))

pub returns : goal.returns
returns g c =
    let w = natives g.T.NativeType.native_slot c.self.inside.values c.self.invariant in
    let n = count_slots w (slots_are c.self.view_is) in
    read_native g.T.NativeType.native_slot c.self.inside.values w (slots_are c.self.view_is) c.args.i c.index-as_slice-i.result
    (omega (arith, n, c.requires)) (omega (arith, n, c.requires)) (rw (← c.as_slice.ensures) c.index-as_slice-i.is)
