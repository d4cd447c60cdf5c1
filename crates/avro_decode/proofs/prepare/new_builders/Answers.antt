use Rattle.std.proofs.Common.{arith}
use Rattle.avro_decode.proofs.NewBuilders.{kept_pushed, kept_passed, kept_ended, some_of, field_is_kept, field_fits}
use Rattle.avro_decode.proofs.prepare.new_builders.Goals as goal
use Rattle.avro_decode.proofs.prepare.new_builders.Goals.{then-projection-i+in_ok-builder+in_ok-push, else-projection-i}

pub make_builder-requires : goal.make_builder-requires
make_builder-requires c =
    let b = c.requires.together in
    let f = c.index-fields-i.result in
    let a = c.index-avro_fields-i.result in
    record {
      kept = field_is_kept c.args.fields.now c.args.avro_fields.now c.args.projection.now b c.loop-i.i f a c.loop-i-test.true c.if-projection-i.true;
      typed = field_fits c.args.fields.now c.args.avro_fields.now c.args.projection.now b c.loop-i.i f a c.loop-i-test.true c.if-projection-i.true;
    }

pub loop-i-preserved : goal.loop-i-preserved
loop-i-preserved c =
    let b = c.requires.together in
    let inv = c.loop-i.invariant in
    elim c.if-projection-i.branch [
      | then-projection-i+in_ok-builder+in_ok-push w ↦
          record {
            made = rw w.builders-is (kept_pushed c.args.avro_fields.now c.args.fields.now c.args.projection.now c.loop-i.i w.index-avro_fields-i.result w.index-fields-i.result _ b.lengths.0 b.lengths.1 c.loop-i-test.true inv.made _ _ w.if-projection-i.true w.in_ok-builder.ensures.made w.in_ok-push.ensures.items);
          }
      | else-projection-i w ↦
          record {
            made = rw w.builders-is (kept_passed c.args.avro_fields.now c.args.fields.now c.args.projection.now c.loop-i.i (some_of c.args.avro_fields.now (omega (arith, b.some, b.lengths.0))) (some_of c.args.fields.now b.some) _ b.lengths.0 b.lengths.1 c.loop-i-test.true inv.made w.if-projection-i.false);
          }
    ]

pub returns-clause-made : goal.returns-clause-made
returns-clause-made c = kept_ended c.args.avro_fields.now c.args.fields.now c.args.projection.now c.loop-i.i _ c.requires.together.lengths.0 (omega (arith, c.loop-i-test.false)) c.loop-i.invariant.made
