use Rattle.std.proofs.Common.{◌≡◌, ◌<◌, length, get_or, refl, ap, arith}
use Rattle.std.proofs.Math.Seq.{map-set_same}
use Rattle.arrow_builders.specs.Shapes.{shape}
use Rattle.avro_schema.specs.declared.schema.AvroField.{AvroField}
use Rattle.avro_schema.specs.ValidBlock.{kept}
use Rattle.avro_decode.proofs.Builders.{grows_here, spare_here, tight_set}
use Rattle.avro_decode.proofs.Fields.{suit_length}
use Rattle.avro_decode.proofs.OneField.{one_field, one_column}
use Rattle.avro_decode.proofs.RowSteps.{kept_here}
use Rattle.avro_decode.proofs.rows.decode_rows.Goals as goal

pub returns-then-projection-clause-keeps : goal.returns-then-projection-clause-keeps
returns-then-projection-clause-keeps g c =
    let fields = c.args.plan.now.avro_fields.now in
    let fs = kept c.args.plan.now.avro_fields.now c.args.plan.now.projection.now in
    let f = get_or c.args.plan.now.avro_fields.now 0 c.index-avro_fields-0.result in
    let is : f ≡ get_or c.args.plan.now.avro_fields.now 0 f = ap (λ (x : AvroField). get_or c.args.plan.now.avro_fields.now 0 x) c.index-avro_fields-0.is in
    let bs = c.args.builders.now in
    let lt : 0 < length c.args.plan.now.avro_fields.now = omega (arith, c.if-avro_fields-eq1.true) in
    let n = kept_here 0 0 c.args.plan.now.avro_fields.now c.args.plan.now.projection.now f lt c.requires.plan.lengths is fs refl c.if-projection.true in
    let l = suit_length fs bs c.requires.plan.suits in
    let b = c.index-builders-0.result in
    let e = c.decode_only_field.ensures.keeps in
    record {
      shapes = map-set_same shape _ _ _ b e.same_shape;
      tight = tight_set c.decode_only_field.result bs 0 _ c.requires.plan.tight e.tight;
      grows = grows_here _ fs bs 0 f b _ l n.0 n.1 e.grows;
      has_capacity = λ h. e.has_capacity (spare_here _ fs bs 0 f b l n.0 n.1 h);
      same = e.same;
      moves = e.moves;
    }

pub returns-then-projection-clause-reads : goal.returns-then-projection-clause-reads
returns-then-projection-clause-reads g c =
    let f = get_or c.args.plan.now.avro_fields.now 0 c.index-avro_fields-0.result in
    let is : f ≡ get_or c.args.plan.now.avro_fields.now 0 f = ap (λ (x : AvroField). get_or c.args.plan.now.avro_fields.now 0 x) c.index-avro_fields-0.is in
    let bs = c.args.builders.now in
    let o = one_field c.args.plan.now.avro_fields.now c.args.plan.now.projection.now f c.if-avro_fields-eq1.true c.requires.plan.lengths is c.if-projection.true in
    let l = suit_length (kept c.args.plan.now.avro_fields.now c.args.plan.now.projection.now) bs c.requires.plan.suits in
    one_column g.C.ByteReader.rest g.C.ByteReader.shown g.C.ByteReader.calls c.args.cursor.now c.decode_only_field.new.cursor c.args.rows c.args.plan.now.avro_fields.now c.args.plan.now.projection.now f bs c.index-builders-0.result c.decode_only_field.new.builder c.decode_only_field.result o.0 o.1 l c.decode_only_field.ensures.keeps.costs c.decode_only_field.ensures.reads
