use Rattle.std.proofs.Common.{◌≡◌, ◌∙◌, Err, ap, take, arith, rules}
use Rattle.std.proofs.lemmas.Int.{ints, to_z-of_z}
use Rattle.std.specs.Int.{w128, cast_signed, cast_unsigned}
use Rattle.arrow_core.specs.declared.slot.Slot.TheVariants as slot
use Rattle.guide.specs.Sum.{added}
use Rattle.guide.proofs.Spare.{err_then}
use Rattle.guide.proofs.Sums.{passes_at, too_great}
use Rattle.guide.proofs.sum.add_longs.Goals as goal

pub returns-in_err-sum-clause-err : goal.returns-in_err-sum-clause-err
returns-in_err-sum-clause-err c =
    let is : c.from_residual.result ≡ Err c.in_err-sum.field-0.0 = search rules in
    let past = too_great c.checked_add.result c.ok_or.result c.in_err-sum.field-0.0 _ _ c.ok_or.ensures.value c.in_err-sum.was c.checked_add.ensures in
    let same : cast_signed w128 (cast_unsigned w128 c.args.sum) ≡ c.args.sum = grind (arith, ints, to_z-of_z) in
    let first : cast_signed w128 c.loop-i.sum-bits ≡ added c.args.sum (take c.loop-i.i c.args.longs.now.slots) =
    c.loop-i.invariant ∙ ap (λ z. added z (take c.loop-i.i c.args.longs.now.slots)) same in
    let long : cast_signed w128 (cast_unsigned w128 c.long_at.result) ≡ c.long_at.result = grind (arith, ints, to_z-of_z) in
    err_then _ c.from_residual.result c.in_err-sum.field-0.0 is
    (past.0, passes_at c.args.sum c.args.longs.now.slots c.loop-i.i slot.Null (cast_signed w128 c.loop-i.sum-bits) (cast_signed w128 (cast_unsigned w128 c.long_at.result)) (search rules) first (long ∙ c.long_at.ensures) past.1)
