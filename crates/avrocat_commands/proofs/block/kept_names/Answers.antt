-- Each turn adds the name of a field that is kept.
use Rattle.std.proofs.Common.{arith}
use Rattle.avro_ndjson.proofs.KeptLists.{some_of, kept_more, kept_passed}
use Rattle.avrocat_commands.proofs.block.kept_names.Goals as goal
use Rattle.avrocat_commands.proofs.block.kept_names.Goals.{then-projection-i+in_ok-try_clone+in_ok-push, else-projection-i}

pub loop-i-preserved : goal.loop-i-preserved
loop-i-preserved c =
    elim c.if-projection-i.branch [
      | then-projection-i+in_ok-try_clone+in_ok-push w ↦
          rw (w.names-is, w.in_ok-push.ensures.items)
          (kept_more (λ f. f.name) _ _ c.loop-i.i w.index-avro_fields-i.result _ c.loop-i-test.true c.requires c.loop-i.invariant w.if-projection-i.true _ w.in_ok-try_clone.ensures.copy)
      | else-projection-i w ↦
          rw w.names-is
          (kept_passed (λ f. f.name) _ _ c.loop-i.i (some_of c.args.avro_fields.now (omega (arith, c.loop-i-test.true))) _ c.loop-i-test.true c.requires c.loop-i.invariant w.if-projection-i.false)
    ]
