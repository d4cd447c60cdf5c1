-- What was given has slots, or is passed over.
use Rattle.std.proofs.Common.{arith}
use Rattle.json_write.proofs.PassedLemmas.{finds_next, passed_more, unchanged}
use Rattle.ndjson.specs.Serializer.{array_lines}
use Rattle.ndjson.proofs.serializer.find.Goals as goal

pub returns-in-Ok-true-clause-found : goal.returns-in-Ok-true-clause-found
returns-in-Ok-true-clause-found g c =
    let i = c.loop-given.invariant in
    finds_next g.I.Iterator.next_gives array_lines _ _ _ c.in-Some.given _ _ i.empty i.passed c.in-Some.ensures.steps (rw c.in-Ok-true.field-0-test at c.in-Ok-true.ensures.ok)

pub loop-given-preserved : goal.loop-given-preserved
loop-given-preserved g c =
    let i = c.loop-given.invariant in
    let on = c.in-Some.ensures.goes.on i.iterates.1 in
    let added = rw c.in-Ok-false.field-0-test at c.in-Ok-false.ensures.ok in
    record {
      iterates = (on.0, on.1);
      passed = passed_more g.I.Iterator.next_gives array_lines _ _ _ c.in-Some.given _ _ i.passed c.in-Some.ensures.steps added;
      below = omega (arith, on.2, i.below);
      empty = unchanged g.I.Iterator.next_gives array_lines c.in-Some.given _ _ i.empty added;
    }
