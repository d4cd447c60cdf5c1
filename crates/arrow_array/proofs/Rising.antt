-- Offsets that fit are indices, in order.
use Rattle.std.proofs.Common.{◌≡◌, arith, ℕ, ◌+◌, ◌-◌, ◌<◌, ◌≤◌, inl, inr, ℤ, pos, negsuc, List, length}
use mathlib.Core.Path.{subst}
use Rattle.std.proofs.lemmas.Bool.{cases_lt}
use Rattle.arrow_core.specs.Numbers.{IsIndex}
use Rattle.arrow_array.specs.Offsets.{offset_at, IsWithin, IsNotAbove, IsOffsets}

-- the offsets below i fit, and before is the last of them
pub record OffsetsBelow (offsets : List ℤ) (n i before : ℕ) : Type 0 where
  pub within : (k : ℕ) → k < i → IsWithin (offset_at offsets k) n
  pub rising : (k : ℕ) → k + 1 < i → IsNotAbove (offset_at offsets k) (offset_at offsets (k + 1))
  pub last : (k : ℕ) → k + 1 ≡ i → offset_at offsets k ≡ pos before
  pub start : i ≡ 0 → before ≡ 0

pub position_is : (z : ℤ) (n : ℕ) → IsWithin z n → IsIndex z
position_is (pos a) n h = tt
position_is (negsuc a) n h = absurd h

pub within_at : (z : ℤ) (n a : ℕ) → IsWithin z n → z ≡ pos a → a ≤ n
within_at z n a h e = subst (λ y. IsWithin y n) e h

pub order_at : (y z : ℤ) (a b : ℕ) → IsNotAbove y z → y ≡ pos a → z ≡ pos b → a ≤ b
order_at y z a b h e d = subst (λ w. IsNotAbove (pos a) w) d (subst (λ w. IsNotAbove w z) e h)

-- offset i is not below the one before it
pub never_below : (offsets : List ℤ) (m n i before here : ℕ) → OffsetsBelow offsets m i before → IsOffsets offsets n → i < length offsets → offset_at offsets i ≡ pos here → before ≤ here
never_below offsets m n i b h w o l e = elim (cases_lt 0 i) [
  | inl p ↦ let q : i - 1 + 1 ≡ i = omega (arith, p) in
      order_at _ _ _ _ (o.rising (i - 1) (omega (arith, l, q))) (w.last (i - 1) q) (rw q e)
  | inr z ↦ let s : b ≡ 0 = w.start (omega (arith, z)) in omega (arith, s)
]

-- offset i is not past the end
pub never_past : (offsets : List ℤ) (n i here : ℕ) → IsOffsets offsets n → i < length offsets → offset_at offsets i ≡ pos here → here ≤ n
never_past offsets n i h o l e = within_at _ _ _ (o.within i l) e
