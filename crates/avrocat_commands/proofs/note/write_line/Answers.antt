-- Where a write fails, a prefix of the line was taken.
use Rattle.std.proofs.lemmas.Result.{err_from_is_err_and, on_err_weaker}
use Rattle.avrocat_commands.proofs.Told.{prefix_first, prefix_second}
use Rattle.avrocat_commands.proofs.note.write_line.Goals as goal

pub returns-in_err-write_both-clause-prefix : goal.returns-in_err-write_both-clause-prefix
returns-in_err-write_both-clause-prefix g c =
    let p = err_from_is_err_and c.from_residual.result c.from_residual.ensures.1 in
    rw p.1 (prefix_first _ _ _ _ c.in_err-write_both.ensures.prefix)

pub returns-in_err-write_both-2-clause-prefix : goal.returns-in_err-write_both-2-clause-prefix
returns-in_err-write_both-2-clause-prefix g c =
    let p = err_from_is_err_and c.from_residual-in_err-write_both-2.result c.from_residual-in_err-write_both-2.ensures.1 in
    rw p.1 (prefix_second _ _ _ _ _ c.in_ok-write_both.ensures.ok (prefix_first _ _ _ _ c.in_err-write_both-2.ensures.prefix))

pub returns-clause-prefix : goal.returns-clause-prefix
returns-clause-prefix g c =
    on_err_weaker c.write_all.result
    (λ q. prefix_second _ _ _ _ _ c.in_ok-write_both.ensures.ok (prefix_second _ _ _ _ _ c.in_ok-write_both-2.ensures.ok q)) c.write_all.ensures.prefix
