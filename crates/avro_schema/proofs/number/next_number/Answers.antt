use Rattle.std.proofs.Common.{ℕ, ◌^◌, ◌<◌, refl, ◌∙◌, arith, Fits, w64}
use Rattle.std.proofs.lemmas.Int.{to_z-of_z}
use Rattle.avro_schema.proofs.Groups as groups
use Rattle.avro_schema.proofs.number.next_number.Goals as goal

fits_below : (n : ℕ) → n < 2 ^ 64 → Fits w64 n
fits_below n h = omega (arith, h)

pub loop-index-init : goal.loop-index-init
loop-index-init g c = record { begun = groups.begun_nothing _; shown = groups.risen-zero _; jumped = refl; calls = groups.risen-zero _ }

pub returns-in_err-byte-clause-none : goal.returns-in_err-byte-clause-none
returns-in_err-byte-clause-none g c =
    rw c.from_residual.ensures (groups.no_number_at_end _ _ _ _ c.loop-index.invariant.begun c.in_err-byte.ensures.read.0)

pub returns-then-byte-gt1-clause-none : goal.returns-then-byte-gt1-clause-none
returns-then-byte-gt1-clause-none g c =
    groups.no_tenth _ _ _ _ c.loop-index.invariant.begun c.in_ok-byte.byte _ c.in_ok-byte.ensures.read c.loop-index-test.true c.if-index-eq9.true c.if-byte-gt1.true

pub returns-then-byte-gt1-clause-forward : goal.returns-then-byte-gt1-clause-forward
returns-then-byte-gt1-clause-forward g c =
    groups.forward_more _ _ _ _ c.loop-index.invariant.begun c.in_ok-byte.byte _ c.in_ok-byte.ensures.read c.loop-index-test.true

pub overflow_add-unsigned : goal.overflow_add-unsigned
overflow_add-unsigned g c =
    fits_below _ (groups.sum_fits _ _ _ _ c.loop-index.invariant.begun c.in_ok-byte.byte _ c.in_ok-byte.ensures.read c.loop-index-test.true (groups.not_both _ _ c.else-index-eq9.either))

pub returns-then-byte-lt128-clause-some : goal.returns-then-byte-lt128-clause-some
returns-then-byte-lt128-clause-some g c =
    groups.ends _ _ _ _ c.loop-index.invariant.begun c.in_ok-byte.byte _ c.in_ok-byte.ensures.read c.loop-index-test.true c.if-byte-lt128.true (groups.not_both _ _ c.else-index-eq9.either) _ (to_z-of_z w64 c.signed.result (grind (arith, c.signed.type_inv)) ∙ c.signed.ensures)

pub returns-then-byte-lt128-clause-forward : goal.returns-then-byte-lt128-clause-forward
returns-then-byte-lt128-clause-forward g c =
    groups.forward_more _ _ _ _ c.loop-index.invariant.begun c.in_ok-byte.byte _ c.in_ok-byte.ensures.read c.loop-index-test.true

pub loop-index-preserved : goal.loop-index-preserved
loop-index-preserved g c = record {
  begun = groups.begun_next _ _ _ _ c.loop-index.invariant.begun c.in_ok-byte.byte _ c.in_ok-byte.ensures.read c.loop-index-test.true c.if-byte-lt128.false (omega (arith, rw c.in_ok-byte.was at c.byte.type_inv)) (groups.not_both _ _ c.else-index-eq9.either);
  shown = c.in_ok-byte.ensures.shown ∙ groups.risen-more _ _ _ c.loop-index.invariant.shown;
  jumped = c.in_ok-byte.ensures.jumped ∙ c.loop-index.invariant.jumped;
  calls = c.in_ok-byte.ensures.calls ∙ groups.risen-more _ _ _ c.loop-index.invariant.calls;
}

pub returns-clause-none : goal.returns-clause-none
returns-clause-none g c = groups.no_number_of_ten _ _ _ _ c.loop-index.invariant.begun c.loop-index-test.false
