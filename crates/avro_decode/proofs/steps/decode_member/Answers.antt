use Rattle.std.proofs.Common.{true, false, refl, arith, rules}
use Rattle.arrow_builders.specs.MutableArrays.{builder_slots}
use Rattle.avro_decode.specs.Masks.{mask}
use Rattle.avro_decode.proofs.FieldSteps.{null_read, on_given}
use Rattle.avro_decode.proofs.Going.{offsets_less}
use Rattle.avro_decode.proofs.Members.{has_flat_kind}
use Rattle.avro_decode.proofs.Nodes.{grows_wider, grows_fewer, spare_fewer}
use Rattle.avro_decode.proofs.Suited.{mask_fewer, null_grows, null_fits}
use Rattle.avro_decode.proofs.steps.decode_member.Goals as goal

pub decode_frequent-requires : goal.decode_frequent-requires
decode_frequent-requires g c = record {
  fits = c.requires.fits;
  kind = has_flat_kind c.args.schema.now c.args.builder.now c.requires.suits;
  suits = c.requires.suits;
  tight = c.requires.tight;
  offsets = offsets_less _ _ _ c.args.builder.now (omega arith) c.requires.offsets;
}

pub returns-then-null-clause-keeps : goal.returns-then-null-clause-keeps
returns-then-null-clause-keeps g c =
    let e = c.push_null.ensures in
    record {
      same_shape = e.shape;
      tight = on_given c.push_null.result _ _ e.tight c.requires.tight;
      grows = null_grows _ c.args.schema.now c.args.builder.now _ c.requires.suits e.takes;
      has_capacity = λ h. e.has_capacity (null_fits _ c.args.schema.now c.args.builder.now c.requires.suits h);
      same = refl;
      moves = search rules;
      costs = search rules;
    }

pub returns-then-null-clause-reads : goal.returns-then-null-clause-reads
returns-then-null-clause-reads g c =
    null_read c.push_null.result c.args.null c.args.schema.now (builder_slots c.args.builder.now) (builder_slots c.push_null.new.builder) (g.C.ByteReader.rest c.args.cursor.now) c.if-null.true c.push_null.ensures.err c.push_null.ensures.ok

pub returns-else-null-clause-keeps : goal.returns-else-null-clause-keeps
returns-else-null-clause-keeps g c =
    let s = c.args.schema.now in
    let e = c.decode_frequent.ensures.keeps in
    record {
      same_shape = e.same_shape;
      tight = e.tight;
      grows = grows_wider _ _ _ _ _ (grows_fewer (mask true s) (mask false s) _ _ _ (mask_fewer s) e.grows) (omega arith);
      has_capacity = λ h. e.has_capacity (spare_fewer (mask true s) (mask false s) _ _ _ (mask_fewer s) (omega arith) h);
      same = e.same;
      moves = e.moves;
      costs = e.costs;
    }
