use Rattle.std.proofs.Common.{◌≡◌, ◌∙◌, ap, rules, arith, ℤ, ◌+ℤ◌}
use Rattle.std.proofs.lemmas.Int.{ints, to_z-of_z}
use Rattle.std.specs.Int.{w128, cast_signed, cast_unsigned}
use Rattle.guide.proofs.Fields.{added_more, checked_sum}
use Rattle.guide.proofs.lines.add_rows.Goals as goal

pub loop-i-preserved : goal.loop-i-preserved
loop-i-preserved c =
    let long = c.long_at-long.ensures c.args.place c.in-Some.ensures in
    let same : cast_signed w128 (cast_unsigned w128 c.long_at-long.result) ≡ c.long_at-long.result = grind (arith, ints, to_z-of_z) in
    let kept : cast_signed w128 (cast_unsigned w128 c.in_ok-sum.sum) ≡ c.in_ok-sum.sum = grind (arith, ints, to_z-of_z) in
    let next = checked_sum c.checked_add.result c.ok_or.result c.in_ok-sum.sum _ _ c.ok_or.ensures.value c.in_ok-sum.was c.checked_add.ensures in
    added_more c.args.place c.loop-i.i _ _ _ _ c.args.rows.now.slots (search rules) c.loop-i.invariant long (kept ∙ next ∙ ap (λ (z : ℤ). cast_signed w128 c.loop-i.sum-bits +ℤ z) same)
