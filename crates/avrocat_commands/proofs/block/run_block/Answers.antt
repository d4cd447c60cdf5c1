-- What was read is what is shown, and what was written.
use Rattle.std.proofs.lemmas.Result.{on_ok_weaker, err_from_is_err_and}
use Rattle.avrocat_commands.specs.Blocks.{ShowsColumns}
use Rattle.avrocat_commands.proofs.Endings.{keeps_same}
use Rattle.avrocat_commands.proofs.RefusalLemmas.{not_read, by_what_was_read, write_fails}
use Rattle.avrocat_commands.proofs.block.run_block.Goals as goal

pub returns-in_err-bytes-clause-fails : goal.returns-in_err-bytes-clause-fails
returns-in_err-bytes-clause-fails g c =
    let p = err_from_is_err_and c.from_residual.result c.from_residual.ensures.1 in
    rw (p.1, p.2) (not_read _ _ _ _ (keeps_same _) c.in_err-bytes.ensures.err)

pub returns-in_err-lines-clause-fails : goal.returns-in_err-lines-clause-fails
returns-in_err-lines-clause-fails g c =
    let r = c.from_residual-in_err-lines in
    let p = err_from_is_err_and r.result r.ensures.1 in
    rw (p.1, p.2) (by_what_was_read _ _ _ _ _ (keeps_same _) c.in_ok-bytes.ensures.ok c.in_err-lines.ensures.err)

pub returns-clause-done : goal.returns-clause-done
returns-clause-done g c =
    let shows : ShowsColumns c.args.words c.in_ok-bytes.bytes.items c.as_slice.result.now = rw c.as_slice.ensures c.in_ok-lines.ensures.ok in
    on_ok_weaker c.write_all.result (λ written. record { bytes = c.in_ok-bytes.bytes.items; text = c.as_slice.result.now; read = c.in_ok-bytes.ensures.ok; shows = shows; written = written }) c.write_all.ensures.ok

pub returns-clause-fails : goal.returns-clause-fails
returns-clause-fails g c =
    let shows : ShowsColumns c.args.words c.in_ok-bytes.bytes.items c.as_slice.result.now = rw c.as_slice.ensures c.in_ok-lines.ensures.ok in
    write_fails _ _ _ c.write_all.result _ _ c.in_ok-bytes.ensures.ok shows c.write_all.ensures.only c.write_all.ensures.prefix c.write_all.ensures.cause
