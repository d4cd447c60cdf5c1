use Rattle.std.proofs.Common.{◌≡◌, ◌-◌, ◌+◌, ◌∙◌, length, refl, suc, arith, rules}
use Rattle.std.proofs.lemmas.Result.{err_from_is_err_and}
use Rattle.avro_schema.specs.ValidBlock.{kept}
use Rattle.avro_reference.proofs.Counting.{forward_more, forward_none, moves_within, moves_so_far}
use Rattle.avro_decode.proofs.Fields.{suit_length, suit_same, children_none, children_then, children_reach, children_spare}
use Rattle.avro_decode.proofs.RowSteps.{rows_begun, rows_step, rows_fault, rows_ended}
use Rattle.avro_decode.proofs.kept_rows.decode_kept_rows.Goals as goal

pub loop-init : goal.loop-init
loop-init g c = record {
  same = refl;
  shapes = refl;
  tight = c.requires.plan.tight;
  reads = rows_begun _ _ _ _ _ _ _ _ _ (omega arith);
  forward = forward_none _;
  grows = children_none _ _ _ (suit_length _ _ c.requires.plan.suits);
}

pub decode_kept_row-requires : goal.decode_kept_row-requires
decode_kept_row-requires g c =
    let inv = c.loop.invariant in
    let fs = kept c.args.plan.now.avro_fields.now c.args.plan.now.projection.now in
    record {
      steps = c.steps_of-steps.ensures;
      enough = let size : length c.steps_of-steps.result ≡ 64 = search rules in omega (arith, size, c.requires.few);
      all = c.requires.all;
      plan = record {
        lengths = c.requires.plan.lengths;
        carried = c.requires.plan.carried;
        suits = suit_same fs _ _ inv.shapes c.requires.plan.suits;
        tight = inv.tight;
        offsets = children_reach _ _ fs _ _ inv.shapes inv.forward inv.grows.each c.requires.plan.offsets;
      };
    }

pub returns-in_err-decode_kept_row-clause-reads : goal.returns-in_err-decode_kept_row-clause-reads
returns-in_err-decode_kept_row-clause-reads g c =
    let p = err_from_is_err_and c.from_residual.result c.from_residual.ensures.1 in
    let s : c.args.rows - c.loop.counter ≡ suc (c.args.rows - (c.loop.counter + 1)) = omega (arith, c.loop-test.true) in
    rw (p.1, p.2) (rows_fault _ _ _ _ _ c.args.rows _ (c.args.rows - (c.loop.counter + 1)) _ _ _ _ s c.loop.invariant.reads _ c.in_err-decode_kept_row.ensures.reads)

pub returns-in_err-decode_kept_row-clause-keeps : goal.returns-in_err-decode_kept_row-clause-keeps
returns-in_err-decode_kept_row-clause-keeps g c =
    let inv = c.loop.invariant in
    let e = c.in_err-decode_kept_row.ensures.keeps in
    let p = err_from_is_err_and c.from_residual.result c.from_residual.ensures.1 in
    rw (p.1, p.2) (record {
      shapes = e.shapes ∙ inv.shapes;
      tight = tt;
      grows = children_then _ _ _ _ _ _ _ inv.forward e.moves.forward inv.grows e.grows;
      has_capacity = λ h. e.has_capacity (children_spare _ _ _ _ _ inv.forward inv.grows.each h);
      same = e.same ∙ inv.same;
      moves = moves_within _ _ _ _ _ _ _ _ inv.reads.4 inv.forward e.moves;
    })

pub loop-preserved : goal.loop-preserved
loop-preserved g c =
    let inv = c.loop.invariant in
    let e = c.in_ok-decode_kept_row.ensures in
    let k = e.keeps in
    let s : c.args.rows - c.loop.counter ≡ suc (c.args.rows - (c.loop.counter + 1)) = omega (arith, c.loop-test.true) in
    record {
      same = k.same ∙ inv.same;
      shapes = k.shapes ∙ inv.shapes;
      tight = k.tight;
      reads = rows_step _ _ _ _ _ c.args.rows _ (c.args.rows - (c.loop.counter + 1)) _ _ _ _ s inv.reads _ _ e.reads;
      forward = forward_more _ _ _ inv.forward k.moves.forward;
      grows = children_then _ _ _ _ _ _ _ inv.forward k.moves.forward inv.grows k.grows;
    }

pub returns-clause-reads : goal.returns-clause-reads
returns-clause-reads g c = rows_ended _ _ _ _ _ c.args.rows (c.args.rows - c.loop.counter) _ _ _ _ (omega (arith, c.loop-test.false)) c.loop.invariant.reads

pub returns-clause-keeps : goal.returns-clause-keeps
returns-clause-keeps g c =
    let inv = c.loop.invariant in
    record {
      shapes = inv.shapes;
      tight = inv.tight;
      grows = inv.grows;
      has_capacity = λ h. tt;
      same = inv.same;
      moves = moves_so_far _ _ _ _ _ _ _ inv.reads.4 inv.forward;
    }
