use Rattle.std.proofs.Common.{ap, length, arith, refl}
use Rattle.arrow_array.specs.Slots.{boolean_at}
use Rattle.arrow_flat.proofs.Slots.{length-slots_of}
use Rattle.arrow_flat.proofs.boolean.MutableBooleanArray.clear.Goals as goal

pub returns-clause-capacity : goal.returns-clause-capacity
returns-clause-capacity c =
    let n = length-slots_of (boolean_at c.self.inside.values.items) c.self.inside.validity.items (length c.self.inside.validity.items) in
    let m = length-slots_of (boolean_at c.clear.new.self.items) c.clear-2.new.self.items (length c.clear-2.new.self.items) in
    rw (← c.self.view_is) (record {
      slots = omega (arith, m, ap length c.clear-2.ensures.items);
      slot_capacity = omega (arith, n, c.self.invariant.0);
      bytes = refl;
      byte_capacity = omega arith;
    })
