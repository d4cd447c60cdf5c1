use Rattle.std.proofs.Common.{List, [], ◌∷◌, ◌++◌, sym, subst}
use Rattle.json_tree.specs.Tree.{Json}
use Rattle.std.proofs.iter.Next.{Yields-more}
use Rattle.std.proofs.lemmas.Result.{err_from_is_err_and}
use Rattle.json_tree.specs.Meaning.{IsJson}
use Rattle.ndjson_read.specs.Inference.{NoValue}
use Rattle.ndjson_read.specs.GivenRows.{texts_of, FailsAt}
use Rattle.ndjson_read.specs.Needed.{StandFor}
use Rattle.ndjson_read.proofs.GivenLemmas.{stand_more, fails_at}
use Rattle.ndjson.proofs.rows.push_given.Goals as goal

pub loop-row-preserved : goal.loop-row-preserved
loop-row-preserved g c =
    let added = c.in_ok-push_value.ensures.value in
    subst (λ z. StandFor (texts_of (c.loop-row.yielded ++ c.in-Some.row ∷ [])) z) (sym {A = List Json} added.2)
    (stand_more c.loop-row.yielded c.in-Some.row _ added.0 c.loop-row.invariant (subst (IsJson added.0) c.as_bytes.ensures.value added.1))

pub returns-in_err-push_value-clause-err : goal.returns-in_err-push_value-clause-err
returns-in_err-push_value-clause-err g c =
    let it = c.into_iter-row-iterator in
    let fault = subst (λ z. NoValue z c.in_err-push_value.field-0.0) c.as_bytes.ensures.value c.in_err-push_value.ensures.err in
    let more = Yields-more g.I.Iterator.next_gives it.result c.loop-row.yielded c.loop-row.row-iterator c.in-Some.row c.next.new.self c.loop-row.yielded_by c.in-Some.ensures.steps in
    let p = err_from_is_err_and c.from_residual.result c.from_residual.ensures.1 in
    rw (p.1, p.2) (subst (λ z. FailsAt g.I.Iterator.next_gives z c.in_err-push_value.field-0.0) it.ensures.into_iter_gives
    (fails_at g.I.Iterator.next_gives it.result c.next.new.self c.loop-row.yielded c.in-Some.row _ c.in_err-push_value.field-0.0 more c.loop-row.invariant fault))
