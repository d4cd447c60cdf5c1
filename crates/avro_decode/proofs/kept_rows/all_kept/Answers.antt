use Rattle.std.proofs.Common.{refl, arith}
use Rattle.avro_decode.proofs.FieldSteps.{kept_next, not_all_kept}
use Rattle.avro_decode.proofs.kept_rows.all_kept.Goals as goal

pub loop-i-init : goal.loop-i-init
loop-i-init c = record { kept = λ i d lt. absurd (omega (arith, lt)) }

pub loop-i-preserved : goal.loop-i-preserved
loop-i-preserved c = record { kept = kept_next c.loop-i.i c.args.projection.now c.loop-i-test.true c.if-not-projection-i.false c.loop-i.invariant.kept }

pub returns-then-not-projection-i : goal.returns-then-not-projection-i
returns-then-not-projection-i c = (λ t. absurd cc, λ all. absurd (not_all_kept c.loop-i.i c.args.projection.now c.loop-i-test.true c.if-not-projection-i.true all))

pub returns : goal.returns
returns c = (λ t. λ i d lt. c.loop-i.invariant.kept i d (omega (arith, lt, c.loop-i-test.false)), λ all. refl)
