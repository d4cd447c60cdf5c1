-- The size of a positive decimal is the least even one that leaves the top bit clear.
use Rattle.std.proofs.Common.{◌≡◌, ℕ, suc, ◌*◌, ◌-◌, ◌^◌, ◌<◌, ◌≤◌, inl, inr, cond, refl, sym, subst, arith}
use Rattle.std.specs.Prelude.{nat_lt}
use Rattle.std.proofs.lemmas.Bool.{cases_lt, lt-ltb, le-ltb}
use Rattle.avro_encode.specs.Laws.{DecimalSizes, IsLeastEvenSize, LeavesTopBitClear}

-- where no smaller half leaves the top bit clear
size_of : (n half : ℕ) → 0 < half → LeavesTopBitClear n (2 * half) → ((other : ℕ) → 0 < other → other < half → LeavesTopBitClear n (2 * other) → ⊥) → IsLeastEvenSize n (2 * half)
size_of n half f c fewer = record {
  half = half;
  even = refl;
  filled = f;
  clear = c;
  least = λ other g h. elim (cases_lt other half) [ inl below ↦ absurd (fewer other g below h) | inr above ↦ omega (arith, above) ];
}

-- a half below another is one of the numbers below it
module _ (n : ℕ) where
  below_1 : (k : ℕ) → 0 < k → k < 1 → LeavesTopBitClear n (2 * k) → ⊥
  below_1 k g l h = absurd (omega (arith, g, l))

  below : (most k : ℕ) → (2 ^ (8 * (2 * most) - 1) ≤ n) → ((j : ℕ) → 0 < j → j < most → LeavesTopBitClear n (2 * j) → ⊥) → 0 < k → k < suc most → LeavesTopBitClear n (2 * k) → ⊥
  below most k m before g l h =
      elim (cases_lt k most) [
        | inl less ↦ before k g less h
        | inr same ↦ let e : k ≡ most = omega (arith, same, l) in let h' : LeavesTopBitClear n (2 * most) = subst (λ j. LeavesTopBitClear n (2 * j)) e h in absurd (omega (arith, m, h'))
      ]

  below_2 : 2 ^ 15 ≤ n → (k : ℕ) → 0 < k → k < 2 → LeavesTopBitClear n (2 * k) → ⊥
  below_2 m k = below 1 k m (below_1)

  below_3 : 2 ^ 31 ≤ n → (k : ℕ) → 0 < k → k < 3 → LeavesTopBitClear n (2 * k) → ⊥
  below_3 m k = below 2 k m (below_2 (omega (arith, m)))

  below_4 : 2 ^ 47 ≤ n → (k : ℕ) → 0 < k → k < 4 → LeavesTopBitClear n (2 * k) → ⊥
  below_4 m k = below 3 k m (below_3 (omega (arith, m)))

  below_5 : 2 ^ 63 ≤ n → (k : ℕ) → 0 < k → k < 5 → LeavesTopBitClear n (2 * k) → ⊥
  below_5 m k = below 4 k m (below_4 (omega (arith, m)))

  below_6 : 2 ^ 79 ≤ n → (k : ℕ) → 0 < k → k < 6 → LeavesTopBitClear n (2 * k) → ⊥
  below_6 m k = below 5 k m (below_5 (omega (arith, m)))

  below_7 : 2 ^ 95 ≤ n → (k : ℕ) → 0 < k → k < 7 → LeavesTopBitClear n (2 * k) → ⊥
  below_7 m k = below 6 k m (below_6 (omega (arith, m)))

  below_8 : 2 ^ 111 ≤ n → (k : ℕ) → 0 < k → k < 8 → LeavesTopBitClear n (2 * k) → ⊥
  below_8 m k = below 7 k m (below_7 (omega (arith, m)))

-- one test after another
step : (n bound size rest : ℕ) → (n < bound → IsLeastEvenSize n size) → (bound ≤ n → IsLeastEvenSize n rest) → IsLeastEvenSize n (cond (nat_lt n bound) size rest)
step n bound size rest small large =
    elim (cases_lt n bound) [
      | inl less ↦ subst (λ b. IsLeastEvenSize n (cond b size rest)) (sym (lt-ltb n bound less)) (small less)
      | inr more ↦ subst (λ b. IsLeastEvenSize n (cond b size rest)) (sym (le-ltb n bound more)) (large more)
    ]

pub decimal_sizes : DecimalSizes
decimal_sizes n fits =
    step n (2 ^ 15) 2 _ (λ l. size_of n 1 (omega arith) l (below_1 n)) (λ m1.
    step n (2 ^ 31) 4 _ (λ l. size_of n 2 (omega arith) l (below_2 n m1)) (λ m2.
    step n (2 ^ 47) 6 _ (λ l. size_of n 3 (omega arith) l (below_3 n m2)) (λ m3.
    step n (2 ^ 63) 8 _ (λ l. size_of n 4 (omega arith) l (below_4 n m3)) (λ m4.
    step n (2 ^ 79) 10 _ (λ l. size_of n 5 (omega arith) l (below_5 n m4)) (λ m5.
    step n (2 ^ 95) 12 _ (λ l. size_of n 6 (omega arith) l (below_6 n m5)) (λ m6.
    step n (2 ^ 111) 14 _ (λ l. size_of n 7 (omega arith) l (below_7 n m6)) (λ m7.
    size_of n 8 (omega arith) fits (below_8 n m7))))))))
