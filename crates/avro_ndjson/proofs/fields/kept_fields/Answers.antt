-- Each turn adds a field that is kept.
use Rattle.std.proofs.Common.{◌∙◌, arith}
use Rattle.avro_ndjson.proofs.KeptLists.{some_of, kept_more, kept_passed, kept_whole}
use Rattle.avro_ndjson.proofs.fields.kept_fields.Goals as goal
use Rattle.avro_ndjson.proofs.fields.kept_fields.Goals.{then-projection-i+in_ok-try_clone+in_ok-push, else-projection-i}

pub loop-i-preserved : goal.loop-i-preserved
loop-i-preserved c =
    elim c.if-projection-i.branch [
      | then-projection-i+in_ok-try_clone+in_ok-push w ↦
          rw (w.kept-is, w.in_ok-push.ensures.items)
          (kept_more (λ f. f) _ _ c.loop-i.i w.index-fields-i.result _ c.loop-i-test.true c.requires c.loop-i.invariant w.if-projection-i.true _ (w.in_ok-try_clone.ensures.copy ∙ w.index-fields-i.is))
      | else-projection-i w ↦
          rw w.kept-is
          (kept_passed (λ f. f) _ _ c.loop-i.i (some_of c.args.fields.now (omega (arith, c.loop-i-test.true))) _ c.loop-i-test.true c.requires c.loop-i.invariant w.if-projection-i.false)
    ]

pub returns-clause-ok : goal.returns-clause-ok
returns-clause-ok c =
    c.from_vec.ensures ∙ kept_whole c.args.fields.now c.args.projection.now c.loop-i.i c.loop-i.kept.items (omega (arith, c.loop-i-test.false)) c.loop-i.invariant
