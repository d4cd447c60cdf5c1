use Rattle.std.proofs.Common.{refl, arith}
use Rattle.avro_schema.specs.ValidBlock.{EnumsFit}
use Rattle.avro_decode.proofs.KeptSchemas.{holds_all, holds_there}
use Rattle.avro_decode.proofs.kept.kept_enums_fit.Goals as goal

pub returns-then-not-enums_fit : goal.returns-then-not-enums_fit
returns-then-not-enums_fit c = (λ t. absurd cc, λ h. c.if-not-enums_fit.ensures.1 (holds_there EnumsFit c.args.avro_fields.now c.args.projection.now c.loop-i.i c.index-avro_fields-i.result c.loop-i-test.true h c.if-projection-i.true))

pub returns : goal.returns
returns c = (λ t. holds_all EnumsFit c.args.avro_fields.now c.args.projection.now c.loop-i.i (omega (arith, c.loop-i-test.false)) c.loop-i.invariant.holds, λ h. refl)
