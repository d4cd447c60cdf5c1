use Rattle.std.proofs.Common.{refl, arith}
use Rattle.arrow_core.specs.declared.types.Field.{Field}
use Rattle.avro_schema.specs.ValidBlock.{IsSmall}
use Rattle.avro_decode.proofs.KeptSchemas.{kept_all, kept_there}
use Rattle.avro_decode.proofs.kept.keep_no_small.Goals as goal

pub returns-then-is_small : goal.returns-then-is_small
returns-then-is_small c = (λ t. absurd cc, λ h. absurd (kept_there (λ (f : Field). IsSmall f.data_type → ⊥) c.args.fields.now c.args.projection.now c.loop-i.i c.index-fields-i.result c.loop-i-test.true h c.if-projection-i.true (c.if-is_small.ensures.0 refl)))

pub returns : goal.returns
returns c = (λ t. kept_all (λ (f : Field). IsSmall f.data_type → ⊥) c.args.fields.now c.args.projection.now c.loop-i.i (omega (arith, c.loop-i-test.false)) c.loop-i.invariant.holds, λ h. refl)
