use Rattle.std.proofs.lemmas.Result.{err_from_is_err_and}
use Rattle.json_flat.specs.Meaning.{whole_in}
use Rattle.json_flat.proofs.Growing.{faulty}
use Rattle.json_flat.proofs.plain.read_integers.Goals as goal

pub returns-in_err-push_integer-clause-err : goal.returns-in_err-push_integer-clause-err
returns-in_err-push_integer-clause-err g c =
    let p = err_from_is_err_and c.from_residual-in_err-push_integer.result c.from_residual-in_err-push_integer.ensures.1 in
    rw (p.1, p.2) (faulty (whole_in g.T.WholeNumber.low g.T.WholeNumber.high) ⊥ c.args.values.now c.loop-value.value-index c.value-item.result _ c.loop-value-test.true c.value-item.is c.in_err-push_integer.ensures.err)
