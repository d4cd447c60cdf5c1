use Rattle.std.proofs.Common.{sym, ◌∙◌}
use Rattle.json_flat.proofs.Digits.{digits-of}
use Rattle.json_flat.proofs.exponent.Exponent.read.Goals as goal

pub power_of-requires : goal.power_of-requires
power_of-requires c = digits-of c.without_sign-digits.result.now (sym c.are_digits.ensures ∙ c.if-not-are_digits.false)
