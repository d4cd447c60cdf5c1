use Rattle.std.proofs.Common.{arith}
use Rattle.std.proofs.lemmas.Result.{err_from_is_err_and}
use Rattle.avro_flat.proofs.Many.{many_none, many_more, many_done, many_err}
use Rattle.avro_flat.proofs.decimal.decode_fixed_decimals.Goals as goal

pub loop-init : goal.loop-init
loop-init g c = many_none (omega arith)

pub loop-preserved : goal.loop-preserved
loop-preserved g c = many_more c.loop.invariant (omega arith) c.in_ok-decode_fixed_decimal.ensures

pub returns-in_err-decode_fixed_decimal : goal.returns-in_err-decode_fixed_decimal
returns-in_err-decode_fixed_decimal g c =
    many_err c.loop.invariant _ (omega arith) (err_from_is_err_and c.from_residual.result c.from_residual.ensures.1) c.in_err-decode_fixed_decimal.ensures

pub returns : goal.returns
returns g c = many_done c.loop.invariant (omega arith)
