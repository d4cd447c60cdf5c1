use Rattle.std.proofs.lemmas.Bool.{cases_lt}
use Rattle.std.proofs.Common.{◌≡◌, ℕ, ◌+◌, ◌^◌, ◌<◌, ◌≤◌, inl, inr, refl, ◌∙◌, arith, Fits, w64, []}
use Rattle.std.proofs.lemmas.Int.{to_z-of_z}
use Rattle.avro_schema.proofs.Groups.{not_both}
use Rattle.avro_container.proofs.Numbers as numbers
use Rattle.avro_container.proofs.Taken as taken
use Rattle.avro_container.specs.Forms as forms
use Rattle.avro_container.proofs.parts.number.Goals as goal

fits_below : (n : ℕ) → n < 2 ^ 64 → Fits w64 n
fits_below n h = omega (arith, h)

below_next : (index b : ℕ) → index < 10 → (index ≡ 9 → b ≤ 1) → 128 ≤ b → index + 1 < 10
below_next index b l low high =
    elim (cases_lt index 9) [
      | inl below ↦ omega (arith, below)
      | inr above ↦ let nine : index ≡ 9 = omega (arith, above, l) in let small : b ≤ 1 = low nine in absurd (omega (arith, small, high))
    ]

pub loop-byte-init : goal.loop-byte-init
loop-byte-init g c = record { taken = []; takes = taken.takes_nothing _; underway = numbers.underway_nothing; below = omega arith; same = refl }

pub returns-in_err-byte-clause-stops : goal.returns-in_err-byte-clause-stops
returns-in_err-byte-clause-stops g c =
    taken.handed_on _ _ c.from_residual.result c.from_residual.ensures.1 (taken.stops_after forms.number _ _ _ _ c.loop-byte.invariant.takes (numbers.has_begun _ _ _ c.loop-byte.invariant.underway c.loop-byte.invariant.below) _ c.in_err-byte.ensures.stops)

pub returns-then-byte-gt1-clause-stops : goal.returns-then-byte-gt1-clause-stops
returns-then-byte-gt1-clause-stops g c =
    (_, (taken.takes_more _ _ _ _ _ c.loop-byte.invariant.takes c.in_ok-byte.ensures.taken, numbers.no_tenth _ _ _ c.loop-byte.invariant.underway _ c.loop-byte.invariant.below c.if-index-eq9.true c.if-byte-gt1.true))

pub overflow_add-unsigned : goal.overflow_add-unsigned
overflow_add-unsigned g c =
    fits_below _ (numbers.sum_fits _ _ _ c.loop-byte.invariant.underway _ c.loop-byte.invariant.below (not_both _ _ c.else-index-eq9.either))

pub returns-then-byte-lt128-clause-ok : goal.returns-then-byte-lt128-clause-ok
returns-then-byte-lt128-clause-ok g c =
    (_, taken.takes_more _ _ _ _ _ c.loop-byte.invariant.takes c.in_ok-byte.ensures.taken, numbers.ends _ _ _ c.loop-byte.invariant.underway _ c.loop-byte.invariant.below c.if-byte-lt128.true (not_both _ _ c.else-index-eq9.either) _ (to_z-of_z w64 c.signed.result (grind (arith, c.signed.type_inv)) ∙ c.signed.ensures))

pub loop-byte-preserved : goal.loop-byte-preserved
loop-byte-preserved g c = record {
  taken = _;
  takes = taken.takes_more _ _ _ _ _ c.loop-byte.invariant.takes c.in_ok-byte.ensures.taken;
  underway = numbers.leads_on _ _ _ c.loop-byte.invariant.underway _ c.loop-byte.invariant.below c.if-byte-lt128.false (omega (arith, rw c.in_ok-byte.was at c.byte.type_inv)) (not_both _ _ c.else-index-eq9.either);
  below = below_next _ _ c.loop-byte.invariant.below (not_both _ _ c.else-index-eq9.either) c.if-byte-lt128.false;
  same = c.in_ok-byte.ensures.same ∙ c.loop-byte.invariant.same;
}
