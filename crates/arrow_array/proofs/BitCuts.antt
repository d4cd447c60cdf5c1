-- A cut of a list that is made by index.
use Rattle.std.proofs.Common.{◌≡◌, sym, ℕ, zero, suc, ◌+◌, ◌-◌, ◌<◌, ◌≤◌, map, take, drop, refl, arith}
use Rattle.std.specs.List.{range_with_len}
use native.Mathlib.Numerals.{unary_clauses}
use Rattle.std.proofs.lemmas.List.FromFn.{take-map-range_with_len}

pub drop_made : {X : Type 0} (f : ℕ → X) (s a o m k : ℕ) → s + o ≡ a → o + k ≡ m → drop o (map f (range_with_len s m)) ≡ map f (range_with_len a k)
drop_made f s a zero m k e h = let p : s ≡ a = omega (arith, e) in let q : m ≡ k = omega (arith, h) in rw (p, q) refl
drop_made f s a (suc o) zero k e h = absurd (omega (arith, h))
drop_made f s a (suc o) (suc m) k e h = drop_made f (s + 1) a o m k (omega (arith, e)) (omega (arith, h))

-- k indices from index o on
pub cut_made : {X : Type 0} (f : ℕ → X) (s a o m k : ℕ) → s + o ≡ a → o + k ≤ m → map f (range_with_len a k) ≡ take k (drop o (map f (range_with_len s m)))
cut_made f s a o m k e h =
    let d : drop o (map f (range_with_len s m)) ≡ map f (range_with_len a (m - o)) = drop_made f s a o m (m - o) e (omega (arith, h)) in
    rw d (sym (take-map-range_with_len f a (m - o) k (omega (arith, h))))

-- the same items, counted from another index
pub made_alike : {X : Type 0} (f g : ℕ → X) (s a n : ℕ) → ((i : ℕ) → i < n → f (s + i) ≡ g (a + i)) → map f (range_with_len s n) ≡ map g (range_with_len a n)
made_alike f g s a zero h = refl
made_alike f g s a (suc n) h =
    let t : map f (range_with_len (s + 1) n) ≡ map g (range_with_len (a + 1) n) = made_alike f g (s + 1) (a + 1) n (λ i l. let e : s + 1 + i ≡ s + (i + 1) = omega arith in let d : a + 1 + i ≡ a + (i + 1) = omega arith in rw (e, d) (h (i + 1) (omega (arith, l)))) in
    let u : f s ≡ g a = simp unary_clauses at (h 0 (omega arith)) in
    rw (t, u) refl
