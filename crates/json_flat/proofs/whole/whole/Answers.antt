use Rattle.std.proofs.Common.{sym, subst}
use Rattle.json_flat.specs.Parts.{IsSigned}
use Rattle.json_flat.specs.Whole.{signed, scaled}
use Rattle.json_flat.proofs.Signs.{too-large}
use Rattle.json_flat.proofs.whole.whole.Goals as goal

pub returns-in_err-magnitude : goal.returns-in_err-magnitude
returns-in_err-magnitude c =
    let m = c.args.mantissa in
    λ power e. subst (λ r. IsSigned r (signed m.negative (scaled m.integer.now m.fraction.now c.args.exponent.negative power))) (sym c.from_residual.ensures) (too-large m.negative _ (c.in_err-magnitude.ensures power e))

pub returns : goal.returns
returns c = λ power e. subst (λ k. IsSigned c.with_sign.result (signed c.args.mantissa.negative k)) (c.in_ok-magnitude.ensures power e).0 c.with_sign.ensures
