use Rattle.std.proofs.Common.{ap, arith, length, map}
use Rattle.arrow_flat.specs.Contents.{content_at}
use Rattle.arrow_flat.proofs.Slots.{length-slots_of}
use Rattle.arrow_flat.proofs.Contents.{HoldContents-cut, HoldContents-count}
use Rattle.arrow_flat.proofs.content.MutableContentArray.clear.Goals as goal

pub invariant_of-self : goal.invariant_of-self
invariant_of-self g c = (
  rw (c.truncate.ensures.items, c.clear.ensures.items, c.clear-2.ensures.items) (HoldContents-cut g.C.Content.holds g.O.Offset.number _ _ _ c.self.invariant.0),
  rw c.clear.ensures.items (omega arith),
  c.self.invariant.2,
)

pub returns-clause-capacity : goal.returns-clause-capacity
returns-clause-capacity g c =
    let b = c.self.inside in
    let n = HoldContents-count g.C.Content.holds g.O.Offset.number _ _ _ c.self.invariant.0 in
    let k = length-slots_of (content_at g.C.Content.slot (map g.O.Offset.number b.offsets.items) b.values.items) b.validity.items (length b.validity.items) in
    let l = length-slots_of (content_at g.C.Content.slot (map g.O.Offset.number c.truncate.new.self.items) c.clear.new.self.items) c.clear-2.new.self.items (length c.clear-2.new.self.items) in
    rw (← c.self.view_is) (record {
      slots = omega (arith, l, ap length c.clear-2.ensures.items);
      slot_capacity = omega (arith, n, k, b.offsets.ok.0, c.truncate.ensures.capacity, c.clear-2.ensures.capacity, ap length c.clear-2.ensures.items);
      bytes = ap length c.clear.ensures.items;
      byte_capacity = omega (arith, c.clear.ensures.capacity, ap length c.clear.ensures.items, b.values.ok.0);
    })
