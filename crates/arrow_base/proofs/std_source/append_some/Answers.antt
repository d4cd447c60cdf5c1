use Rattle.std.proofs.Common.{◌≡◌, subst, arith, Result, Ok, Err, OnErr, ℕ}
use Rattle.arrow_core.specs.declared.error.Error.{Error}
use Rattle.arrow_base.specs.Outside.{GivesThrough}
use Rattle.arrow_base.proofs.Through.{none_after}
use Rattle.arrow_base.proofs.std_source.append_some.Goals as goal

after_err : (P Q : Type 0) (r : Result ℕ Error) → (P → Q) → OnErr r P → OnErr r Q
after_err P Q (Ok n) f h = tt
after_err P Q (Err e) f h = f h

pub returns-clause-unchanged : goal.returns-clause-unchanged
returns-clause-unchanged g c =
    let given = c.in_ok-given in
    let none : given.given ≡ 0 = omega (arith, c.if-given-gt0.false) in
    after_err _ _ _ (none_after _ _ _ _ _ _ _ (subst (GivesThrough _ _ _ _ _ _) none given.ensures.given)) c.append_next.ensures.unchanged
