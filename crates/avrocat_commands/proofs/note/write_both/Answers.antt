-- Where a write fails, a prefix of both runs was taken.
use Rattle.std.proofs.lemmas.Result.{err_from_is_err_and, on_err_weaker}
use Rattle.avrocat_commands.proofs.Told.{prefix_first, prefix_second}
use Rattle.avrocat_commands.proofs.note.write_both.Goals as goal

pub returns-in_err-write_all-clause-prefix : goal.returns-in_err-write_all-clause-prefix
returns-in_err-write_all-clause-prefix g c =
    let p = err_from_is_err_and c.from_residual.result c.from_residual.ensures.1 in
    rw p.1 (prefix_first _ _ _ _ c.in_err-write_all.ensures.prefix)

pub returns-clause-prefix : goal.returns-clause-prefix
returns-clause-prefix g c =
    on_err_weaker c.write_all-2.result (λ q. prefix_second _ _ _ _ _ c.in_ok-write_all.ensures.ok q) c.write_all-2.ensures.prefix
