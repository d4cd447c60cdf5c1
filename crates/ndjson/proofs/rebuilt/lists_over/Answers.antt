use Rattle.std.proofs.Common.{◌∙◌, ap, length, arith, List, ℤ}
use Rattle.arrow_array.specs.Lists.{list_at}
use Rattle.ndjson.proofs.SlotLaws.{lists_again}
use Rattle.ndjson.proofs.rebuilt.lists_over.Goals as goal

pub returns-clause-slots : goal.returns-clause-slots
returns-clause-slots c =
    let l = c.args.lists.now in
    let o = c.offsets.ensures in
    let copied = c.in_ok-offsets.offsets in
    let same = c.in_ok-offsets.ensures.items ∙ o.offsets in
    let long = ap length same in
    let long_2 = ap length o.offsets in
    c.in_ok-array.ensures.slots
    ∙ lists_again l.slots l.items _ l.offsets copied.items c.in_ok-validity.validity _ same c.requires (omega (arith, long, long_2, o.count, copied.ok.0)) (c.in_ok-validity.ensures l.slots c.validity.ensures) (λ k lt held. o.slots k lt held ∙ ap (λ (z : List ℤ). list_at z l.items k) o.offsets)
