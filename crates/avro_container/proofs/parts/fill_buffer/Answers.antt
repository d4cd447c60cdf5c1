use Rattle.std.proofs.Common.{arith, ◌∙◌}
use Rattle.avro_container.proofs.Taken as taken
use Rattle.avro_container.proofs.Filled as filled
use Rattle.avro_container.specs.Forms as forms
use Rattle.avro_container.proofs.parts.fill_buffer.Goals as goal

pub returns-in_err-at-clause-stops : goal.returns-in_err-at-clause-stops
returns-in_err-at-clause-stops g c =
    taken.handed_on _ _ c.from_residual-in_err-at.result c.from_residual-in_err-at.ensures.1 (taken.stops_after (forms.raw c.args.n) _ _ _ _ c.loop-at.invariant.takes (filled.some_left _ _ c.loop-at.bytes.items c.loop-at-test.true) _ c.in_err-at.ensures.stops)

pub loop-at-preserved : goal.loop-at-preserved
loop-at-preserved g c = record {
  takes = filled.filling _ _ _ c.loop-at.at c.in_ok-at.field-0 c.extend_buffer.new.bytes.items c.fill_some.new.bytes.items (rw c.in_ok-extend_buffer.ensures.kept c.loop-at.invariant.takes) c.in_ok-at.ensures.taken;
  at = omega (arith, c.in_ok-at.ensures.count, c.in_ok-at.ensures.len);
  within = omega (arith, c.in_ok-extend_buffer.ensures.within, c.in_ok-at.ensures.len);
  grown = omega (arith, c.in_ok-at.ensures.len, filled.still_grown _ _ _ _ _ _ _ _ c.loop-at.invariant.takes (omega (arith, c.loop-at.invariant.at, c.loop-at.bytes.ok.0)) c.in_ok-at.ensures.never_rises c.loop-at.invariant.grown c.in_ok-extend_buffer.ensures.piece);
  same = c.in_ok-at.ensures.same ∙ c.loop-at.invariant.same;
}

pub returns-in_err-at-clause-grown : goal.returns-in_err-at-clause-grown
returns-in_err-at-clause-grown g c =
    omega (arith, c.in_err-at.ensures.len, filled.still_grown _ _ _ _ _ _ _ _ c.loop-at.invariant.takes (omega (arith, c.loop-at.invariant.at, c.loop-at.bytes.ok.0)) c.in_err-at.ensures.never_rises c.loop-at.invariant.grown c.in_ok-extend_buffer.ensures.piece)

pub returns-in_err-extend_buffer-clause-grown : goal.returns-in_err-extend_buffer-clause-grown
returns-in_err-extend_buffer-clause-grown g c =
    filled.still_grown _ _ _ _ _ _ _ _ c.loop-at.invariant.takes (omega (arith, c.loop-at.invariant.at, c.loop-at.bytes.ok.0)) (omega arith) c.loop-at.invariant.grown c.in_err-extend_buffer.ensures.piece

pub returns-in_err-extend_buffer-clause-stops : goal.returns-in_err-extend_buffer-clause-stops
returns-in_err-extend_buffer-clause-stops g c =
    taken.handed_on _ _ c.from_residual-in_err-extend_buffer.result c.from_residual-in_err-extend_buffer.ensures.1 (taken.no_memory (forms.raw c.args.n) _ _ _ _ c.loop-at.invariant.takes (filled.some_left _ _ c.loop-at.bytes.items c.loop-at-test.true) c.in_ok-not_used_up.ensures.ok c.in_err-extend_buffer.ensures.err)

pub returns-in_err-not_used_up-clause-stops : goal.returns-in_err-not_used_up-clause-stops
returns-in_err-not_used_up-clause-stops g c =
    taken.handed_on _ _ c.from_residual.result c.from_residual.ensures.1 (taken.used_up (forms.raw c.args.n) _ _ _ _ c.loop-at.invariant.takes (filled.some_left _ _ c.loop-at.bytes.items c.loop-at-test.true) c.in_err-not_used_up.ensures.err.1 c.in_err-not_used_up.ensures.err.0)
