-- Set bits that are counted word by word.
use Rattle.std.proofs.Common.{◌≡◌, refl, sym, ◌∙◌, ap, ℕ, zero, suc, ◌+◌, ◌*◌, ◌/◌, ◌%◌, ◌^◌, ◌<◌, ◌≤◌, ◌==◌, count_ones, Bool, true, false, not, cond, List, [], ◌∷◌, length, map, slice_index_or, arith}
use Rattle.std.specs.Prelude.{count_by}
use Rattle.std.specs.List.{filter, range_with_len}
use Rattle.std.specs.Int.{bit_at}
use Rattle.std.specs.Simd.Lanes.{mask_l}
use native.Mathlib.Numerals.{unary_clauses}
use Rattle.std.proofs.Math.Nat.{div-div-eq-div-mul, pow-suc}
use Rattle.std.proofs.lemmas.List.FromFn.{length-range_with_len}
use Rattle.std.proofs.lemmas.List.Sums.{sum_by-cons, count_by-le-length}
use Rattle.std.proofs.lemmas.Nat.{mod-pow-add}
use Rattle.std.proofs.lemmas.Simd.{ones-mask_l}
use Rattle.arrow_array.specs.Bits.{boolean_of}

lowest : (x : ℕ) → cond (x % 2 == 1) 1 0 ≡ x % 2
lowest x = grind arith

-- n bits of a word from bit s on are the mask of their booleans
pub word_mask : (w s n : ℕ) → w / 2 ^ s % 2 ^ n ≡ mask_l (map (λ k. bit_at w k == 1) (range_with_len s n))
word_mask w s zero = omega arith
word_mask w s (suc n) =
    let x = w / 2 ^ s in
    let e : suc n ≡ n + 1 = omega arith in
    let split : x % 2 ^ suc n ≡ (x / 2 ^ 1 % 2 ^ n) * 2 ^ 1 + x % 2 ^ 1 = ap (λ (k : ℕ). x % 2 ^ k) e ∙ mod-pow-add x n 1 in
    let d : s + 1 ≡ suc s = omega arith in
    let shift : x / 2 ^ 1 ≡ w / 2 ^ (s + 1) = div-div-eq-div-mul w (2 ^ s) (2 ^ 1) ∙ ap (λ (k : ℕ). w / k) (sym (ap (λ (k : ℕ). 2 ^ k) d ∙ pow-suc 2 s)) in
    let rest : x / 2 ^ 1 % 2 ^ n ≡ mask_l (map (λ k. bit_at w k == 1) (range_with_len (s + 1) n)) = ap (λ (k : ℕ). k % 2 ^ n) shift ∙ word_mask w (s + 1) n in
    let low = lowest x in
    omega (arith, split, rest, low)

-- a number that is that mask has as many bits set
pub ones_counted : (w s n k : ℕ) → k ≡ w / 2 ^ s % 2 ^ n → count_ones k ≡ count_by (λ j. bit_at w j == 1) (range_with_len s n)
ones_counted w s n k e = ap count_ones (e ∙ word_mask w s n) ∙ ones-mask_l (λ j. bit_at w j == 1) (range_with_len s n)

count_cons : (f : ℕ → Bool) (x : ℕ) (xs : List ℕ) → count_by f (x ∷ xs) ≡ cond (f x) 1 0 + count_by f xs
count_cons f x xs = sum_by-cons (λ (y : ℕ). cond (f y) 1 0) x xs

-- bits that are counted in two parts
pub count_parts : (f : ℕ → Bool) (s a n : ℕ) → count_by f (range_with_len s (a + n)) ≡ count_by f (range_with_len s a) + count_by f (range_with_len (s + a) n)
count_parts f s zero n = let e : zero + n ≡ n = omega arith in let d : s + zero ≡ s = omega arith in rw (e, d) (omega arith)
count_parts f s (suc a) n =
    let e : suc a + n ≡ suc (a + n) = omega arith in
    let d : s + suc a ≡ s + 1 + a = omega arith in
    let whole : count_by f (range_with_len s (suc (a + n))) ≡ cond (f s) 1 0 + count_by f (range_with_len (s + 1) (a + n)) = count_cons f s (range_with_len (s + 1) (a + n)) in
    let part : count_by f (range_with_len s (suc a)) ≡ cond (f s) 1 0 + count_by f (range_with_len (s + 1) a) = count_cons f s (range_with_len (s + 1) a) in
    let rest = count_parts f (s + 1) a n in
    rw (e, d) (omega (arith, whole, part, rest))

-- the same bits, counted from another one
pub count_alike : (f g : ℕ → Bool) (s t n : ℕ) → ((i : ℕ) → i < n → f (s + i) ≡ g (t + i)) → count_by f (range_with_len s n) ≡ count_by g (range_with_len t n)
count_alike f g s t zero h = refl
count_alike f g s t (suc n) h =
    let rest : count_by f (range_with_len (s + 1) n) ≡ count_by g (range_with_len (t + 1) n) = count_alike f g (s + 1) (t + 1) n (λ i l. let e : s + 1 + i ≡ s + (i + 1) = omega arith in let d : t + 1 + i ≡ t + (i + 1) = omega arith in rw (e, d) (h (i + 1) (omega (arith, l)))) in
    let first : f s ≡ g t = simp unary_clauses at (h 0 (omega arith)) in
    count_cons f s (range_with_len (s + 1) n)
    ∙ ap (λ (b : Bool). cond b 1 0 + count_by f (range_with_len (s + 1) n)) first
    ∙ ap (λ (k : ℕ). cond (g t) 1 0 + k) rest
    ∙ sym (count_cons g t (range_with_len (t + 1) n))

unset_step : (b : Bool) (bs : List Bool) (c n : ℕ) → length (filter not bs) + c ≡ n → length (filter not (b ∷ bs)) + (cond b 1 0 + c) ≡ suc n
unset_step true bs c n h = omega (arith, h)
unset_step false bs c n h = omega (arith, h)

-- what isn't set is unset
pub unset_others : (f : ℕ → Bool) (xs : List ℕ) → length (filter not (map f xs)) + count_by f xs ≡ length xs
unset_others f [] = refl
unset_others f (x ∷ xs) =
    ap (λ (k : ℕ). length (filter not (f x ∷ map f xs)) + k) (count_cons f x xs)
    ∙ unset_step (f x) (map f xs) (count_by f xs) (length xs) (unset_others f xs)

module _ (ws : List ℕ) where
  word_counted : (at n : ℕ) → at % 64 + n ≤ 64
      → count_by (λ k. bit_at (slice_index_or ws (at / 64) 0) k == 1) (range_with_len (at % 64) n) ≡ count_by (boolean_of ws) (range_with_len at n)
  word_counted at n h = count_alike (λ k. bit_at (slice_index_or ws (at / 64) 0) k == 1) (boolean_of ws) (at % 64) at n (λ i l.
      let q : (at + i) / 64 ≡ at / 64 = omega (arith, h, l) in
      let r : (at + i) % 64 ≡ at % 64 + i = omega (arith, h, l) in
      rw (q, r) refl)

  -- the bits of one more word
  pub word_more : (s done n set more : ℕ) → (s + done) % 64 + n ≤ 64 → set ≡ count_by (boolean_of ws) (range_with_len s done)
      → more ≡ count_by (λ k. bit_at (slice_index_or ws ((s + done) / 64) 0) k == 1) (range_with_len ((s + done) % 64) n)
      → set + more ≡ count_by (boolean_of ws) (range_with_len s (done + n))
  word_more s done n set more h e d =
      let parts = count_parts (boolean_of ws) s done n in
      let here = word_counted (s + done) n h in
      ap (λ (k : ℕ). k + more) e ∙ ap (λ (k : ℕ). count_by (boolean_of ws) (range_with_len s done) + k) (d ∙ here) ∙ sym parts

-- of n bits at most n are set
pub at_most : (f : ℕ → Bool) (s n k : ℕ) → k ≡ count_by f (range_with_len s n) → k ≤ n
at_most f s n k e = omega (arith, count_by-le-length f (range_with_len s n), length-range_with_len s n, e)
