use Rattle.std.proofs.Common.{◌∙◌, ap, arith}
use Rattle.std.proofs.lemmas.Result.{err_from_is_err_and}
use Rattle.arrow_array.specs.Parts.{byte_width}
use Rattle.avro_flat.proofs.Many.{many_none, many_more, many_done, many_err}
use Rattle.avro_flat.proofs.fixed.decode_fixed_values.Goals as goal

pub decode_fixed-requires : goal.decode_fixed-requires
decode_fixed-requires g c = record { some = c.requires.some; width = ap byte_width c.loop.invariant.data_type ∙ c.requires.width }

pub loop-init : goal.loop-init
loop-init g c = many_none (omega arith)

pub loop-preserved : goal.loop-preserved
loop-preserved g c = many_more c.loop.invariant (omega arith) c.in_ok-decode_fixed.ensures

pub returns-in_err-decode_fixed : goal.returns-in_err-decode_fixed
returns-in_err-decode_fixed g c =
    many_err c.loop.invariant _ (omega arith) (err_from_is_err_and c.from_residual.result c.from_residual.ensures.1) c.in_err-decode_fixed.ensures

pub returns : goal.returns
returns g c = many_done c.loop.invariant (omega arith)
