use Rattle.std.proofs.Common.{ap, arith, length}
use Rattle.arrow_flat.proofs.Contents.{HoldContents-count}
use Rattle.arrow_flat.proofs.content.MutableContentArray.reserve_for.Goals as goal

pub returns-clause-ok : goal.returns-clause-ok
returns-clause-ok g c =
    let n = HoldContents-count g.C.Content.holds g.O.Offset.number _ _ _ c.self.invariant.0 in
    record {
      slots = omega (arith, n, c.self.inside.offsets.ok.0, c.in_ok-reserve.ensures.ok, c.in_ok-reserve.ensures.len, c.in_ok-reserve-2.ensures.ok, ap length c.reserve-2.ensures.items);
      bytes = omega (arith, c.in_ok-reserve-3.ensures.ok, c.in_ok-reserve-3.ensures.len, c.reserve-3.new.self.ok.0);
    }
