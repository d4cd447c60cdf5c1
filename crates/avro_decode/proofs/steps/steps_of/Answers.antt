use Rattle.std.proofs.Common.{◌∙◌, refl, arith}
use Rattle.std.proofs.lemmas.List.{length-set}
use Rattle.avro_decode.proofs.FieldSteps.{fit_next}
use Rattle.avro_decode.proofs.steps.steps_of.Goals as goal

pub loop-i-init : goal.loop-i-init
loop-i-init c = record { long = refl; fit = λ i step f lt. absurd (omega (arith, lt)) }

pub loop-i-preserved : goal.loop-i-preserved
loop-i-preserved c =
    let inv = c.loop-i.invariant in
    record {
      long = length-set c.loop-i.steps c.loop-i.i c.step_of.result ∙ inv.long;
      fit = fit_next c.loop-i.i c.loop-i.steps c.args.avro_fields.now c.step_of.result c.index-avro_fields-i.result (omega (arith, inv.long, c.requires.few, c.loop-i-test.true)) c.loop-i-test.true c.index-avro_fields-i.is inv.fit c.step_of.ensures;
    }

pub returns : goal.returns
returns c = λ i step f lt. c.loop-i.invariant.fit i step f (omega (arith, lt, c.loop-i-test.false))
