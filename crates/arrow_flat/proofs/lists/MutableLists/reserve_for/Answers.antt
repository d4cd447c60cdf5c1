use Rattle.std.proofs.Common.{ap, arith, length}
use Rattle.arrow_flat.proofs.ListOffsets.{hold_count}
use Rattle.arrow_flat.proofs.lists.MutableLists.reserve_for.Goals as goal

pub returns-clause-ok : goal.returns-clause-ok
returns-clause-ok g c =
    let n = hold_count g.O.Offset.IS_LARGE g.O.Offset.number _ _ _ c.self.invariant in
    record {
      slots = omega (arith, n, c.self.inside.offsets.ok.0, c.in_ok-reserve.ensures.ok, c.in_ok-reserve.ensures.len, c.in_ok-reserve_for.ensures.ok.slots, ap length c.reserve_for.ensures.booleans);
      bytes = c.in_ok-reserve_for.ensures.ok.bytes;
    }
