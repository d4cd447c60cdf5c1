use Rattle.std.proofs.Common.{arith, refl}
use Rattle.std.proofs.lemmas.Int.Digits.{digits_value_more}
use Rattle.json_flat.proofs.Integers.{all-digits, an-int, more-digits, same-number}
use Rattle.json_flat.proofs.integer.number_of.Goals as goal

pub loop-digit-init : goal.loop-digit-init
loop-digit-init c = (refl, refl)

pub loop-digit-preserved : goal.loop-digit-preserved
loop-digit-preserved c =
    let e = c.in_ok-number.ensures in
    let inv = c.loop-digit.invariant in
    let i = c.loop-digit.digit-index in
    let lt = c.loop-digit-test.true in
    (more-digits c.args.digits.now i lt inv.0 e.0, omega (arith, e.1, inv.1, digits_value_more 10 c.args.digits.now i lt))

pub returns : goal.returns
returns c =
    let inv = c.loop-digit.invariant in
    let i = c.loop-digit.digit-index in
    let ds = c.args.digits.now in (
      an-int ds c.is_empty.result c.is_unpadded.result c.if-is_empty.false c.is_empty.ensures c.if-not-is_unpadded.false c.is_unpadded.ensures (all-digits ds i c.loop-digit-test.false inv.0),
      same-number ds i c.loop-digit.number c.loop-digit-test.false inv.1,
    )
