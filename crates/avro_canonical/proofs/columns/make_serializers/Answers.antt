use Rattle.std.proofs.Common.{◌≡◌, Err, ap, get_or, arith, rules}
use Rattle.avro_schema.specs.declared.schema.AvroField.{AvroField}
use Rattle.arrow_core.specs.declared.error.Error.TheVariants.{OutOfMemory}
use Rattle.avro_canonical.proofs.Serializers.{field_within, accepted_at, only_memory, err_then, one_more, all_done}
use Rattle.avro_canonical.proofs.Encoded.{more_encoded, all_encoded}
use Rattle.avro_canonical.proofs.columns.make_serializers.Goals as goal

pub bounds-fields-k : goal.bounds-fields-k
bounds-fields-k c = field_within c.args.fields.now c.args.columns.now c.loop-k.k c.requires (omega (arith, c.loop-k-test.true))

pub returns-in_err-new_serializer-clause-memory : goal.returns-in_err-new_serializer-clause-memory
returns-in_err-new_serializer-clause-memory c =
    let e = c.in_err-new_serializer.field-0.0 in
    let is : c.from_residual.result ≡ Err e = search rules in
    let field = get_or c.args.fields.now c.loop-k.k c.index-fields-k.result in
    let at = ap (λ (f : AvroField). get_or c.args.fields.now c.loop-k.k f) c.index-fields-k.is in
    let here = accepted_at c.args.fields.now c.args.columns.now c.loop-k.k field c.index-columns-k.result (omega (arith, c.loop-k-test.true)) at c.index-columns-k.is c.requires in
    err_then (λ d. d ≡ OutOfMemory) c.from_residual.result e is (only_memory field.schema c.index-columns-k.result e here c.in_err-new_serializer.ensures.err)

pub loop-k-preserved : goal.loop-k-preserved
loop-k-preserved c =
    let field = get_or c.args.fields.now c.loop-k.k c.index-fields-k.result in
    let at = ap (λ (f : AvroField). get_or c.args.fields.now c.loop-k.k f) c.index-fields-k.is in
    record {
      left =
          rw c.in_ok-push.ensures.items
          (one_more c.args.fields.now c.args.columns.now c.loop-k.k field c.index-columns-k.result c.loop-k.serializers.items c.in_ok-new_serializer.field-0 _ c.requires (omega (arith, c.loop-k-test.true)) at c.index-columns-k.is c.in_ok-new_serializer.ensures.items c.loop-k.invariant.left);
      encoded = more_encoded c.args.fields.now c.args.columns.now c.loop-k.k field c.index-columns-k.result c.requires (omega (arith, c.loop-k-test.true)) at c.index-columns-k.is c.in_ok-new_serializer.ensures.pairs c.loop-k.invariant.encoded;
    }

pub returns-clause-items : goal.returns-clause-items
returns-clause-items c = all_done c.args.fields.now c.args.columns.now c.loop-k.k c.loop-k.serializers.items _ c.requires (omega (arith, c.loop-k-test.false)) c.loop-k.invariant.left

pub returns-clause-encoded : goal.returns-clause-encoded
returns-clause-encoded c = all_encoded c.args.fields.now c.args.columns.now c.requires (λ j f a l. c.loop-k.invariant.encoded j f a (omega (arith, l, c.loop-k-test.false)) l)
