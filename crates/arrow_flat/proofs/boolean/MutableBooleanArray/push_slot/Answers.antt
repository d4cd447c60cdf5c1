use Rattle.std.proofs.Common.{◌∙◌, ap, ◌++◌, ◌∷◌, [], length, List, Bool, arith}
use Rattle.std.proofs.lemmas.List.{length_push}
use Rattle.arrow_array.specs.Slots.{boolean_at}
use Rattle.arrow_flat.proofs.Slots.{booleans_at-push, length-slots_of}
use Rattle.arrow_flat.proofs.boolean.MutableBooleanArray.push_slot.Goals as goal

pub returns-clause-ok : goal.returns-clause-ok
returns-clause-ok c = rw (← c.self.view_is) (booleans_at-push _ _ _ _ _ _ c.self.invariant.0
    (c.push_reserved.ensures.items ∙ ap (λ (xs : List Bool). xs ++ c.args.boolean ∷ []) c.reserve_one.ensures.items)
    c.in_ok-push.ensures.ok)

pub returns-clause-capacity : goal.returns-clause-capacity
returns-clause-capacity c =
    let old = c.self.inside.validity.items in
    let new = c.push.new.self.items in
    let m = length-slots_of (boolean_at c.self.inside.values.items) old (length old) in
    let n = length-slots_of (boolean_at c.push_reserved.new.self.items) new (length new) in
    let k = ap length c.in_ok-push.ensures.ok in
    let l = length_push old c.args.is_valid in
    rw (← c.self.view_is) (record {
      slots = omega (arith, m, n, k, l, c.reserve_one.ensures.capacity, c.push_reserved.ensures.capacity, c.push.ensures.capacity);
      bytes = omega arith;
    })
