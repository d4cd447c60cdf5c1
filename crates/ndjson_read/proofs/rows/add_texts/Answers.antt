use Rattle.std.proofs.Common.{[], ◌∷◌, ◌++◌, subst}
use Rattle.std.proofs.iter.Next.{Yields-more}
use Rattle.ndjson_read.proofs.RowLemmas.{handed_on}
use Rattle.ndjson_read.specs.GivenRows.{FailsAt}
use Rattle.ndjson_read.proofs.GivenLemmas.{stand_more, fails_at}
use Rattle.ndjson_read.proofs.rows.add_texts.Goals as goal

pub loop-row-preserved : goal.loop-row-preserved
loop-row-preserved g c =
    let now = c.loop-row.invariant in
    let added = c.in_ok-add_text.ensures.added in (
      now.0 ++ added.0 ∷ [],
      stand_more c.loop-row.yielded c.in-Some.row now.0 added.0 now.1 added.1,
      added.2 now.0 now.2,
    )

pub returns-in_err-add_text-clause-err : goal.returns-in_err-add_text-clause-err
returns-in_err-add_text-clause-err g c =
    let now = c.loop-row.invariant in
    let it = c.into_iter-row-iterator in
    let fault = c.in_err-add_text.ensures.err in
    let more = Yields-more g.I.Iterator.next_gives it.result c.loop-row.yielded c.loop-row.row-iterator c.in-Some.row c.next.new.self c.loop-row.yielded_by c.in-Some.ensures.steps in
    handed_on _ _ c.from_residual.result c.from_residual.ensures.1
    (subst (λ z. FailsAt g.I.Iterator.next_gives z c.in_err-add_text.field-0.0) it.ensures.into_iter_gives
    (fails_at g.I.Iterator.next_gives it.result c.next.new.self c.loop-row.yielded c.in-Some.row now.0 c.in_err-add_text.field-0.0 more now.1 fault))
