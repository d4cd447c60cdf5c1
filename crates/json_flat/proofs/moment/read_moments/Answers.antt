use Rattle.std.proofs.lemmas.Result.{err_from_is_err_and}
use Rattle.json_flat.specs.Meaning.{moment_in}
use Rattle.json_flat.proofs.Growing.{faulty, misfit, no-overflow}
use Rattle.json_flat.proofs.moment.read_moments.Goals as goal

pub returns-in_err-push_moment-clause-err : goal.returns-in_err-push_moment-clause-err
returns-in_err-push_moment-clause-err c =
    let p = err_from_is_err_and c.from_residual-in_err-push_moment.result c.from_residual-in_err-push_moment.ensures.1 in
    rw (p.1, p.2) (faulty moment_in ⊥ c.args.values.now c.loop-value.value-index c.value-item.result _ c.loop-value-test.true c.value-item.is c.in_err-push_moment.ensures.err)

pub returns-in_err-push_moment-clause-overflow : goal.returns-in_err-push_moment-clause-overflow
returns-in_err-push_moment-clause-overflow c =
    let p = err_from_is_err_and c.from_residual-in_err-push_moment.result c.from_residual-in_err-push_moment.ensures.1 in
    rw (p.1, p.2) (misfit moment_in c.args.values.now c.loop-value.value-index c.value-item.result _ c.loop-value-test.true c.value-item.is c.in_err-push_moment.ensures.err)

pub returns-clause-overflow : goal.returns-clause-overflow
returns-clause-overflow c = no-overflow _ c.as_box.result c.as_box.ensures.memory
