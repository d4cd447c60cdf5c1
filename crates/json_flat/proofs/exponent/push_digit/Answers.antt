use Rattle.std.proofs.Common.{arith}
use Rattle.std.proofs.lemmas.Str.{digit_value_digit}
use Rattle.json_flat.proofs.exponent.push_digit.Goals as goal

pub returns : goal.returns
returns c = omega (arith, c.saturating_mul.ensures, c.saturating_add.ensures, digit_value_digit c.args.digit c.requires)
