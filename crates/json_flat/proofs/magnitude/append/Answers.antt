use Rattle.std.proofs.Common.{◌+◌, drop, sym, ap, ◌∙◌, subst, arith}
use Rattle.std.proofs.lemmas.Str.Parse.{digit_at}
use Rattle.std.specs.Str.Parse.{digits_value_after}
use Rattle.json_flat.specs.Parts.{Counts}
use Rattle.json_flat.proofs.Digits.{step, too-many}
use Rattle.json_flat.proofs.magnitude.append.Goals as goal

pub push_digit-requires : goal.push_digit-requires
push_digit-requires c = digit_at c.args.digits.now c.loop-digit.digit-index c.requires c.loop-digit-test.true

pub returns-in_err-total : goal.returns-in_err-total
returns-in_err-total c =
    subst (λ r. Counts r (digits_value_after 10 c.args.total c.args.digits.now)) (sym c.from_residual.ensures) (too-many c.loop-digit.total _ c.args.digits.now c.loop-digit.digit-index c.loop-digit-test.true c.loop-digit.invariant.0 c.in_err-total.ensures)

pub loop-digit-preserved : goal.loop-digit-preserved
loop-digit-preserved c =
    let e = c.in_ok-total.ensures in
    let next = step c.loop-digit.total c.args.digits.now c.loop-digit.digit-index c.loop-digit-test.true in
    (ap (λ n. digits_value_after 10 n (drop (c.loop-digit.digit-index + 1) c.args.digits.now)) e.0 ∙ sym next ∙ c.loop-digit.invariant.0, omega (arith, e.0, e.1))
