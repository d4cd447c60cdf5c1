use Rattle.std.proofs.Common.{◌≡◌, ap, arith, length, map, [], ◌∷◌, pos}
use Rattle.arrow_flat.proofs.ListOffsets.{hold_count, hold_none, lens_known, view_len}
use Rattle.arrow_flat.proofs.lists.MutableLists.clear.Goals as goal

pub returns-clause-capacity : goal.returns-clause-capacity
returns-clause-capacity g c =
    let b = c.self.inside in
    let n = hold_count g.O.Offset.IS_LARGE g.O.Offset.number _ _ _ c.self.invariant in
    let k = view_len g.O.Offset.IS_LARGE g.O.Offset.number b.offsets.items b.marks.booleans c.self.invariant in
    let z : map g.O.Offset.number c.truncate.new.self.items ≡ pos 0 ∷ [] = rw c.truncate.ensures.items (hold_none g.O.Offset.IS_LARGE g.O.Offset.number _ _ _ c.self.invariant) in
    let l = ap length (lens_known _ _ [] z c.clear.ensures.booleans) in
    let r = c.clear.ensures.capacity in
    rw (← c.self.view_is) (record {
      slots = l;
      slot_capacity = omega (arith, n, k, b.offsets.ok.0, c.truncate.ensures.capacity, r.slots, r.slot_capacity, ap length c.clear.ensures.booleans);
      bytes = omega arith;
      byte_capacity = omega arith;
    })
