use Rattle.std.proofs.Common.{refl, arith}
use Rattle.avro_schema.specs.ValidBlock.{HasFloat}
use Rattle.avro_decode.proofs.KeptSchemas.{holds_all, holds_there}
use Rattle.avro_decode.proofs.kept.keep_no_float.Goals as goal

pub returns-then-has_float : goal.returns-then-has_float
returns-then-has_float c = (λ t. absurd cc, λ h. absurd (holds_there (λ s. HasFloat s → ⊥) c.args.avro_fields.now c.args.projection.now c.loop-i.i c.index-avro_fields-i.result c.loop-i-test.true h c.if-projection-i.true (c.if-has_float.ensures.0 refl)))

pub returns : goal.returns
returns c = (λ t. holds_all (λ s. HasFloat s → ⊥) c.args.avro_fields.now c.args.projection.now c.loop-i.i (omega (arith, c.loop-i-test.false)) c.loop-i.invariant.holds, λ h. refl)
