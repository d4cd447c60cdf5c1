use Rattle.std.proofs.Common.{◌≡◌, ◌∙◌, ◌≤◌, true, false, refl, length, get_or, arith}
use Rattle.std.proofs.lemmas.List.{length-map}
use Rattle.std.proofs.lemmas.Result.{err_from_is_err_and}
use Rattle.std.proofs.Math.Seq.{map-set_same}
use Rattle.arrow_builders.specs.MutableArrays.{builder_slots}
use Rattle.arrow_builders.specs.Shapes.{shape}
use Rattle.arrow_builders.specs.Tight.{IsTight}
use Rattle.avro_schema.specs.ValidBlock.{kept}
use Rattle.avro_reference.proofs.Counting.{forward_more, forward_none, moves_within, moves_so_far}
use Rattle.avro_decode.proofs.Builders.{all_here, all_set, suits_here, reach_here, grows_here, spare_here}
use Rattle.avro_decode.proofs.Fields.{suit_length, suit_same, children_none, children_then, children_reach, children_spare, shapes_length}
use Rattle.avro_decode.proofs.RowSteps.{row_begun, builder_step, builder_fault, row_ended, kept_here, kept_ended}
use Rattle.avro_decode.proofs.FieldSteps.{fit_here}
use Rattle.avro_decode.proofs.kept_rows.decode_kept_row.Goals as goal

pub loop-i-init : goal.loop-i-init
loop-i-init g c = record {
  same = refl;
  shapes = refl;
  tight = c.requires.plan.tight;
  within = omega arith;
  left = refl;
  reads = row_begun _ _ _ _ _ _ _;
  forward = forward_none _;
  grows = children_none _ _ _ (suit_length _ _ c.requires.plan.suits);
}

pub decode_by_step-requires : goal.decode_by_step-requires
decode_by_step-requires g c =
    let inv = c.loop-i.invariant in
    let fs = kept c.args.plan.now.avro_fields.now c.args.plan.now.projection.now in
    let f = c.index-avro_fields-i.result in
    let bs = c.loop-i.builders in
    let b = c.index-builders-i.result in
    let taken : get_or c.args.plan.now.projection.now c.loop-i.i false ≡ true = c.requires.all c.loop-i.i false (omega (arith, c.loop-i-test.true, c.requires.plan.lengths)) in
    let n = kept_here c.loop-i.i c.loop-i.i _ _ f c.loop-i-test.true c.requires.plan.lengths c.index-avro_fields-i.is fs inv.left taken in
    let us = suit_same fs _ bs inv.shapes c.requires.plan.suits in
    let l = suit_length fs bs us in
    let r = children_reach _ _ fs _ bs inv.shapes inv.forward inv.grows.each c.requires.plan.offsets in
    record {
      fits = fit_here _ c.args.plan.now.avro_fields.now c.loop-i.i _ f c.requires.steps c.loop-i-test.true c.index-avro_fields-i.is;
      suits = suits_here fs bs c.loop-i.i f b n.0 n.1 us;
      tight = all_here IsTight bs c.loop-i.i b (omega (arith, l, n.0)) inv.tight;
      offsets = reach_here _ fs bs c.loop-i.i f b l n.0 n.1 r;
    }

pub bounds-builders-i : goal.bounds-builders-i
bounds-builders-i g c =
    let inv = c.loop-i.invariant in
    let fs = kept c.args.plan.now.avro_fields.now c.args.plan.now.projection.now in
    let bs = c.loop-i.builders in
    let taken : get_or c.args.plan.now.projection.now c.loop-i.i false ≡ true = c.requires.all c.loop-i.i false (omega (arith, c.loop-i-test.true, c.requires.plan.lengths)) in
    let n = kept_here c.loop-i.i c.loop-i.i _ _ c.index-avro_fields-i.result c.loop-i-test.true c.requires.plan.lengths c.index-avro_fields-i.is fs inv.left taken in
    let l = suit_length fs bs (suit_same fs _ bs inv.shapes c.requires.plan.suits) in
    omega (arith, l, n.0)

pub returns-in_err-decode_by_step-clause-reads : goal.returns-in_err-decode_by_step-clause-reads
returns-in_err-decode_by_step-clause-reads g c =
    let inv = c.loop-i.invariant in
    let fs = kept c.args.plan.now.avro_fields.now c.args.plan.now.projection.now in
    let f = c.index-avro_fields-i.result in
    let bs = c.loop-i.builders in
    let taken : get_or c.args.plan.now.projection.now c.loop-i.i false ≡ true = c.requires.all c.loop-i.i false (omega (arith, c.loop-i-test.true, c.requires.plan.lengths)) in
    let n = kept_here c.loop-i.i c.loop-i.i _ _ f c.loop-i-test.true c.requires.plan.lengths c.index-avro_fields-i.is fs inv.left taken in
    let l = suit_length fs bs (suit_same fs _ bs inv.shapes c.requires.plan.suits) in
    let p = err_from_is_err_and c.from_residual.result c.from_residual.ensures.1 in
    rw (p.1, p.2) (builder_fault _ _ _ _ _ c.loop-i.i c.loop-i.i _ _ _ bs c.index-builders-i.result f c.loop-i-test.true c.requires.plan.lengths c.index-avro_fields-i.is taken (omega (arith, l, n.0)) inv.reads _ c.in_err-decode_by_step.ensures.reads)

pub returns-in_err-decode_by_step-clause-keeps : goal.returns-in_err-decode_by_step-clause-keeps
returns-in_err-decode_by_step-clause-keeps g c =
    let inv = c.loop-i.invariant in
    let fs = kept c.args.plan.now.avro_fields.now c.args.plan.now.projection.now in
    let f = c.index-avro_fields-i.result in
    let bs = c.loop-i.builders in
    let b = c.index-builders-i.result in
    let taken : get_or c.args.plan.now.projection.now c.loop-i.i false ≡ true = c.requires.all c.loop-i.i false (omega (arith, c.loop-i-test.true, c.requires.plan.lengths)) in
    let n = kept_here c.loop-i.i c.loop-i.i _ _ f c.loop-i-test.true c.requires.plan.lengths c.index-avro_fields-i.is fs inv.left taken in
    let l = suit_length fs bs (suit_same fs _ bs inv.shapes c.requires.plan.suits) in
    let e = c.in_err-decode_by_step.ensures.keeps in
    let p = err_from_is_err_and c.from_residual.result c.from_residual.ensures.1 in
    rw (p.1, p.2) (record {
      shapes = map-set_same shape _ _ _ b e.same_shape ∙ inv.shapes;
      tight = tt;
      grows = children_then _ _ _ fs _ bs _ inv.forward e.moves.forward inv.grows (grows_here _ fs bs c.loop-i.i f b _ l n.0 n.1 e.grows);
      has_capacity = λ h. e.has_capacity (spare_here _ fs bs c.loop-i.i f b l n.0 n.1 (children_spare _ _ fs _ bs inv.forward inv.grows.each h));
      same = e.same ∙ inv.same;
      moves = moves_within _ _ _ _ _ _ _ _ inv.reads.4 inv.forward e.moves;
    })

pub loop-i-preserved : goal.loop-i-preserved
loop-i-preserved g c =
    let inv = c.loop-i.invariant in
    let fs = kept c.args.plan.now.avro_fields.now c.args.plan.now.projection.now in
    let f = c.index-avro_fields-i.result in
    let bs = c.loop-i.builders in
    let b = c.index-builders-i.result in
    let l = suit_length fs bs (suit_same fs _ bs inv.shapes c.requires.plan.suits) in
    let taken : get_or c.args.plan.now.projection.now c.loop-i.i false ≡ true = c.requires.all c.loop-i.i false (omega (arith, c.loop-i-test.true, c.requires.plan.lengths)) in
    let n = kept_here c.loop-i.i c.loop-i.i _ _ f c.loop-i-test.true c.requires.plan.lengths c.index-avro_fields-i.is fs inv.left taken in
    let e = c.in_ok-decode_by_step.ensures in
    let kept = e.keeps in
    let ls = length-map c.args.builders.now builder_slots in
    let k = shapes_length c.args.builders.now bs inv.shapes in
    record {
      same = kept.same ∙ inv.same;
      shapes = map-set_same shape _ _ _ b kept.same_shape ∙ inv.shapes;
      tight = all_set IsTight bs c.loop-i.i _ inv.tight kept.tight;
      within = omega (arith, n.0, l, k);
      left = n.2;
      reads = builder_step _ _ _ _ _ c.loop-i.i c.loop-i.i _ _ _ bs b f c.loop-i-test.true c.requires.plan.lengths c.index-avro_fields-i.is taken (omega (arith, n.0, l)) inv.reads (omega (arith, n.0, l, k, ls)) _ _ e.reads kept.costs;
      forward = forward_more _ _ _ inv.forward kept.moves.forward;
      grows = children_then _ _ _ fs _ bs _ inv.forward kept.moves.forward inv.grows (grows_here _ fs bs c.loop-i.i f b _ l n.0 n.1 kept.grows);
    }

pub returns-clause-reads : goal.returns-clause-reads
returns-clause-reads g c =
    let inv = c.loop-i.invariant in
    let fs = kept c.args.plan.now.avro_fields.now c.args.plan.now.projection.now in
    let le : length c.args.plan.now.avro_fields.now ≤ c.loop-i.i = omega (arith, c.loop-i-test.false) in
    let m = kept_ended c.loop-i.i c.loop-i.i _ _ fs le inv.left in
    let l = suit_length fs _ c.requires.plan.suits in
    let ls = length-map c.args.builders.now builder_slots in
    row_ended _ _ _ _ _ c.loop-i.i c.loop-i.i _ _ _ _ le c.requires.plan.lengths (omega (arith, m, l, ls, inv.within)) inv.reads

pub returns-clause-keeps : goal.returns-clause-keeps
returns-clause-keeps g c =
    let inv = c.loop-i.invariant in
    record {
      shapes = inv.shapes;
      tight = inv.tight;
      grows = inv.grows;
      has_capacity = λ h. tt;
      same = inv.same;
      moves = moves_so_far _ _ _ _ _ _ _ inv.reads.4 inv.forward;
    }
