use Rattle.std.proofs.Common.{◌∙◌, ◌≤◌, refl, length, arith}
use Rattle.std.proofs.lemmas.List.{length-map}
use Rattle.std.proofs.lemmas.Result.{err_from_is_err_and}
use Rattle.std.proofs.Math.Seq.{map-set_same}
use Rattle.arrow_builders.specs.MutableArrays.{builder_slots}
use Rattle.arrow_builders.specs.Shapes.{shape}
use Rattle.arrow_builders.specs.Tight.{IsTight}
use Rattle.avro_schema.specs.ValidBlock.{kept}
use Rattle.avro_reference.proofs.Counting.{forward_more, forward_none, moves_within, moves_so_far}
use Rattle.avro_decode.proofs.Builders.{all_here, all_set, suits_here, reach_here, grows_here, spare_here}
use Rattle.avro_decode.proofs.Fields.{suit_length, suit_same, children_none, children_then, children_reach, children_spare, shapes_length}
use Rattle.avro_decode.proofs.RowSteps.{row_begun, builder_step, builder_fault, skipped_step, skipped_fault, row_ended, kept_here, kept_later, kept_ended}
use Rattle.avro_decode.proofs.rows.decode_row.Goals as goal
use Rattle.avro_decode.proofs.rows.decode_row.Goals.{then-projection-i+in_ok-decode_field, else-projection-i+in_ok-skip_field}

pub loop-i-init : goal.loop-i-init
loop-i-init g c = record {
  same = refl;
  shapes = refl;
  tight = c.requires.plan.tight;
  few = omega arith;
  within = omega arith;
  left = refl;
  reads = row_begun _ _ _ _ _ _ _;
  forward = forward_none _;
  grows = children_none _ _ _ (suit_length _ _ c.requires.plan.suits);
}

pub decode_field-requires : goal.decode_field-requires
decode_field-requires g c =
    let inv = c.loop-i.invariant in
    let fs = kept c.args.plan.now.avro_fields.now c.args.plan.now.projection.now in
    let f = c.index-avro_fields-i.result in
    let bs = c.loop-i.builders in
    let b = c.index-builders-column.result in
    let n = kept_here c.loop-i.i c.loop-i.column _ _ f c.loop-i-test.true c.requires.plan.lengths c.index-avro_fields-i.is fs inv.left c.if-projection-i.true in
    let us = suit_same fs _ bs inv.shapes c.requires.plan.suits in
    let l = suit_length fs bs us in
    let r = children_reach _ _ fs _ bs inv.shapes inv.forward inv.grows.each c.requires.plan.offsets in
    record {
      suits = suits_here fs bs c.loop-i.column f b n.0 n.1 us;
      tight = all_here IsTight bs c.loop-i.column b (omega (arith, l, n.0)) inv.tight;
      offsets = reach_here _ fs bs c.loop-i.column f b l n.0 n.1 r;
    }

pub bounds-builders-column : goal.bounds-builders-column
bounds-builders-column g c =
    let inv = c.loop-i.invariant in
    let fs = kept c.args.plan.now.avro_fields.now c.args.plan.now.projection.now in
    let bs = c.loop-i.builders in
    let n = kept_here c.loop-i.i c.loop-i.column _ _ c.index-avro_fields-i.result c.loop-i-test.true c.requires.plan.lengths c.index-avro_fields-i.is fs inv.left c.if-projection-i.true in
    let l = suit_length fs bs (suit_same fs _ bs inv.shapes c.requires.plan.suits) in
    omega (arith, l, n.0)

pub returns-in_err-decode_field-clause-reads : goal.returns-in_err-decode_field-clause-reads
returns-in_err-decode_field-clause-reads g c =
    let inv = c.loop-i.invariant in
    let fs = kept c.args.plan.now.avro_fields.now c.args.plan.now.projection.now in
    let f = c.index-avro_fields-i.result in
    let bs = c.loop-i.builders in
    let n = kept_here c.loop-i.i c.loop-i.column _ _ f c.loop-i-test.true c.requires.plan.lengths c.index-avro_fields-i.is fs inv.left c.if-projection-i.true in
    let l = suit_length fs bs (suit_same fs _ bs inv.shapes c.requires.plan.suits) in
    let p = err_from_is_err_and c.from_residual.result c.from_residual.ensures.1 in
    rw (p.1, p.2) (builder_fault _ _ _ _ _ c.loop-i.column c.loop-i.i _ _ _ bs c.index-builders-column.result f c.loop-i-test.true c.requires.plan.lengths c.index-avro_fields-i.is c.if-projection-i.true (omega (arith, l, n.0)) inv.reads _ c.in_err-decode_field.ensures.reads)

pub returns-in_err-decode_field-clause-keeps : goal.returns-in_err-decode_field-clause-keeps
returns-in_err-decode_field-clause-keeps g c =
    let inv = c.loop-i.invariant in
    let fs = kept c.args.plan.now.avro_fields.now c.args.plan.now.projection.now in
    let f = c.index-avro_fields-i.result in
    let bs = c.loop-i.builders in
    let b = c.index-builders-column.result in
    let n = kept_here c.loop-i.i c.loop-i.column _ _ f c.loop-i-test.true c.requires.plan.lengths c.index-avro_fields-i.is fs inv.left c.if-projection-i.true in
    let l = suit_length fs bs (suit_same fs _ bs inv.shapes c.requires.plan.suits) in
    let e = c.in_err-decode_field.ensures.keeps in
    let p = err_from_is_err_and c.from_residual.result c.from_residual.ensures.1 in
    rw (p.1, p.2) (record {
      shapes = map-set_same shape _ _ _ b e.same_shape ∙ inv.shapes;
      tight = tt;
      grows = children_then _ _ _ fs _ bs _ inv.forward e.moves.forward inv.grows (grows_here _ fs bs c.loop-i.column f b _ l n.0 n.1 e.grows);
      has_capacity = λ h. e.has_capacity (spare_here _ fs bs c.loop-i.column f b l n.0 n.1 (children_spare _ _ fs _ bs inv.forward inv.grows.each h));
      same = e.same ∙ inv.same;
      moves = moves_within _ _ _ _ _ _ _ _ inv.reads.4 inv.forward e.moves;
    })

pub returns-in_err-skip_field-clause-reads : goal.returns-in_err-skip_field-clause-reads
returns-in_err-skip_field-clause-reads g c =
    let r = c.from_residual-in_err-skip_field in
    let p = err_from_is_err_and r.result r.ensures.1 in
    rw (p.1, p.2) (skipped_fault _ _ _ _ _ c.loop-i.column c.loop-i.i _ _ _ _ c.index-avro_fields-i.result c.loop-i-test.true c.requires.plan.lengths c.index-avro_fields-i.is c.loop-i.invariant.reads c.if-projection-i.false _ c.in_err-skip_field.ensures.passes)

pub returns-in_err-skip_field-clause-keeps : goal.returns-in_err-skip_field-clause-keeps
returns-in_err-skip_field-clause-keeps g c =
    let inv = c.loop-i.invariant in
    let fs = kept c.args.plan.now.avro_fields.now c.args.plan.now.projection.now in
    let bs = c.loop-i.builders in
    let l = suit_length fs bs (suit_same fs _ bs inv.shapes c.requires.plan.suits) in
    let e = c.in_err-skip_field.ensures in
    let r = c.from_residual-in_err-skip_field in
    let p = err_from_is_err_and r.result r.ensures.1 in
    rw (p.1, p.2) (record {
      shapes = inv.shapes;
      tight = tt;
      grows = children_then _ _ _ fs _ bs bs inv.forward e.moves.forward inv.grows (children_none _ fs bs l);
      has_capacity = λ h. e.memory;
      same = e.same ∙ inv.same;
      moves = moves_within _ _ _ _ _ _ _ _ inv.reads.4 inv.forward e.moves;
    })

pub loop-i-preserved : goal.loop-i-preserved
loop-i-preserved g c =
    let inv = c.loop-i.invariant in
    let fs = kept c.args.plan.now.avro_fields.now c.args.plan.now.projection.now in
    let f = c.index-avro_fields-i.result in
    let bs = c.loop-i.builders in
    let l = suit_length fs bs (suit_same fs _ bs inv.shapes c.requires.plan.suits) in
    elim c.if-projection-i.branch [
      | then-projection-i+in_ok-decode_field w ↦
          let n = kept_here c.loop-i.i c.loop-i.column _ _ f c.loop-i-test.true c.requires.plan.lengths c.index-avro_fields-i.is fs inv.left w.if-projection-i.true in
          let b = w.index-builders-column.result in
          let e = w.in_ok-decode_field.ensures in
          let kept = e.keeps in
          let ls = length-map c.args.builders.now builder_slots in
          let k = shapes_length c.args.builders.now bs inv.shapes in
          record {
            same = rw w.cursor-is (kept.same ∙ inv.same);
            shapes = rw w.builders-is (map-set_same shape _ _ _ b kept.same_shape ∙ inv.shapes);
            tight = rw w.builders-is (all_set IsTight bs c.loop-i.column _ inv.tight kept.tight);
            few = rw w.column-is (omega (arith, inv.few));
            within = rw w.column-is (omega (arith, n.0, l, k));
            left = rw w.column-is n.2;
            reads = rw (w.cursor-is, w.builders-is, w.column-is) (builder_step _ _ _ _ _ c.loop-i.column c.loop-i.i _ _ _ bs b f c.loop-i-test.true c.requires.plan.lengths c.index-avro_fields-i.is w.if-projection-i.true (omega (arith, n.0, l)) inv.reads (omega (arith, n.0, l, k, ls)) _ _ e.reads kept.costs);
            forward = rw w.cursor-is (forward_more _ _ _ inv.forward kept.moves.forward);
            grows = rw (w.cursor-is, w.builders-is) (children_then _ _ _ fs _ bs _ inv.forward kept.moves.forward inv.grows (grows_here _ fs bs c.loop-i.column f b _ l n.0 n.1 kept.grows));
          }
      | else-projection-i+in_ok-skip_field w ↦
          let e = w.in_ok-skip_field.ensures in
          record {
            same = rw w.cursor-is (e.same ∙ inv.same);
            shapes = rw w.builders-is inv.shapes;
            tight = rw w.builders-is inv.tight;
            few = rw w.column-is (omega (arith, inv.few));
            within = rw w.column-is inv.within;
            left = rw w.column-is (kept_later c.loop-i.i c.loop-i.column _ _ f c.loop-i-test.true c.requires.plan.lengths c.index-avro_fields-i.is fs inv.left w.if-projection-i.false);
            reads = rw (w.cursor-is, w.builders-is, w.column-is) (skipped_step _ _ _ _ _ c.loop-i.column c.loop-i.i _ _ _ _ f c.loop-i-test.true c.requires.plan.lengths c.index-avro_fields-i.is inv.reads w.if-projection-i.false _ e.passes);
            forward = rw w.cursor-is (forward_more _ _ _ inv.forward e.moves.forward);
            grows = rw (w.cursor-is, w.builders-is) (children_then _ _ _ fs _ bs bs inv.forward e.moves.forward inv.grows (children_none _ fs bs l));
          }
    ]

pub returns-clause-reads : goal.returns-clause-reads
returns-clause-reads g c =
    let inv = c.loop-i.invariant in
    let fs = kept c.args.plan.now.avro_fields.now c.args.plan.now.projection.now in
    let le : length c.args.plan.now.avro_fields.now ≤ c.loop-i.i = omega (arith, c.loop-i-test.false) in
    let m = kept_ended c.loop-i.i c.loop-i.column _ _ fs le inv.left in
    let l = suit_length fs _ c.requires.plan.suits in
    let ls = length-map c.args.builders.now builder_slots in
    row_ended _ _ _ _ _ c.loop-i.column c.loop-i.i _ _ _ _ le c.requires.plan.lengths (omega (arith, m, l, ls, inv.within)) inv.reads

pub returns-clause-keeps : goal.returns-clause-keeps
returns-clause-keeps g c =
    let inv = c.loop-i.invariant in
    record {
      shapes = inv.shapes;
      tight = inv.tight;
      grows = inv.grows;
      has_capacity = λ h. tt;
      same = inv.same;
      moves = moves_so_far _ _ _ _ _ _ _ inv.reads.4 inv.forward;
    }
