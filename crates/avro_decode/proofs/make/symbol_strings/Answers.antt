use Rattle.std.proofs.Common.{◌∙◌, length, Err, ap, arith}
use Rattle.std.proofs.lemmas.List.Sums.{sum_by_more_le}
use Rattle.std.proofs.lemmas.Result.{err_from_is_err_and}
use Rattle.avro_decode.proofs.NewBuilders.{only_memory, strings_pushed}
use Rattle.avro_decode.proofs.make.symbol_strings.Goals as goal

pub returns-in_err-push-clause-memory : goal.returns-in_err-push-clause-memory
returns-in_err-push-clause-memory c =
    let r = c.from_residual-in_err-push in
    let p = err_from_is_err_and r.result r.ensures.1 in
    let total = sum_by_more_le length c.args.symbols.now c.loop-i.i c.index-symbols-i.result c.loop-i-test.true in
    let e = c.in_err-push.ensures in
    let same = ap length (c.as_str.ensures ∙ c.index-symbols-i.is) in
    rw (p.1, p.2) (only_memory (Err c.in_err-push.field-0.0) _ _ e.errors e.overflow (omega (arith, total, c.loop-i.invariant.made.1, c.requires.total, same)))

pub loop-i-preserved : goal.loop-i-preserved
loop-i-preserved c =
    let e = c.in_ok-push.ensures in
    record { made = strings_pushed c.args.symbols.now c.loop-i.i c.index-symbols-i.result _ _ _ _ _ c.loop-i-test.true c.loop-i.invariant.made (c.as_str.ensures ∙ c.index-symbols-i.is) e.ok e.bytes }
