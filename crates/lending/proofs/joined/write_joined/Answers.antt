use Rattle.std.proofs.Common.{arith, ◌∙◌}
use Rattle.std.proofs.lemmas.Result.{err_from_is_err_and}
use Rattle.lending.proofs.JoinedLemmas.{goes_on, stops, ends-shown, ends-told}
use Rattle.lending.proofs.joined.write_joined.Goals as goal

pub loop-lender-preserved : goal.loop-lender-preserved
loop-lender-preserved g c =
    let i = c.loop-lender.invariant in
    let t = g.I.FallibleStreamingIterator in
    record {
      again = c.in_ok-write_next.ensures.again;
      so_far = goes_on t.step t.shown t.items t.to_come _ _ _ _ _ _ _ _ i.so_far (c.in_ok-write_next.ensures.item c.if-branch.true);
      never_falls = omega (arith, i.never_falls, c.write_next.ensures.never_falls);
      same = c.write_next.ensures.same ∙ i.same;
    }

pub returns-clause-shown : goal.returns-clause-shown
returns-clause-shown g c =
    let i = c.loop-lender.invariant in
    let t = g.I.FallibleStreamingIterator in
    let e = c.in_ok-write_next.ensures.end c.if-branch.false in
    ends-shown t.step t.shown t.items t.to_come _ _ _ _ _ _ _ i.so_far e.0 e.2

pub returns-clause-told : goal.returns-clause-told
returns-clause-told g c =
    let i = c.loop-lender.invariant in
    let t = g.I.FallibleStreamingIterator in
    let e = c.in_ok-write_next.ensures.end c.if-branch.false in
    ends-told t.step t.shown t.items t.to_come _ _ _ _ _ _ _ i.so_far e.1 e.2

pub returns-in_err-write_next-clause-err : goal.returns-in_err-write_next-clause-err
returns-in_err-write_next-clause-err g c =
    let p = err_from_is_err_and c.from_residual.result c.from_residual.ensures.1 in
    let i = c.loop-lender.invariant in
    let t = g.I.FallibleStreamingIterator in
    rw (p.1, p.2) (stops t.step t.shown t.items t.to_come _ _ _ _ _ _ _ _ _ _ _ i.so_far i.never_falls c.in_err-write_next.ensures.err)
