use Rattle.std.proofs.Common.{arith}
use Rattle.std.proofs.lemmas.Int.Digits.{digits_value_more}
use Rattle.std.proofs.lemmas.Str.Parse.{digit_at}
use Rattle.json_flat.proofs.exponent.power_of.Goals as goal

pub push_digit-power-requires : goal.push_digit-power-requires
push_digit-power-requires c = digit_at c.args.digits.now c.loop-digit.digit-index c.requires c.loop-digit-test.true

pub loop-digit-preserved : goal.loop-digit-preserved
loop-digit-preserved c = omega (arith, c.push_digit-power.ensures, c.loop-digit.invariant, digits_value_more 10 c.args.digits.now c.loop-digit.digit-index c.loop-digit-test.true)
