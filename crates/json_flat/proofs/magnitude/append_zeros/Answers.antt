use Rattle.json_flat.proofs.Digits.{few-zeros, many-zeros}
use Rattle.json_flat.proofs.magnitude.append_zeros.Goals as goal

pub returns-then-zeros-gt-GREATEST_TENS : goal.returns-then-zeros-gt-GREATEST_TENS
returns-then-zeros-gt-GREATEST_TENS c = many-zeros c.args.total c.args.zeros c.if-total-eq0.false c.if-zeros-gt-GREATEST_TENS.true

pub pow-requires : goal.pow-requires
pow-requires c = few-zeros c.args.zeros c.if-zeros-gt-GREATEST_TENS.false
