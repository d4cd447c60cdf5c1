-- Bits that are set and read.
use Rattle.std.proofs.Common.{◌≡◌, ap, ◌∙◌, ◌≢◌, inl, inr, Bool, true, false, eqb, ℕ, zero, suc, ◌+◌, ◌*◌, ◌/◌, ◌%◌, ◌^◌, ◌<◌, ◌≤◌, List, [], ◌∷◌, ◌++◌, map, length, slice_set, bit_or, refl, arith, w64, get_or-set_same, get_or-set_other, get_or}
use Rattle.std.specs.Int.{bit_at, from_bool}
use Rattle.std.specs.Int.Bits.{or_zero_r}
use Rattle.std.specs.List.{range_with_len}
use native.Mathlib.Numerals.{unary_clauses}
use Rattle.std.proofs.lemmas.Bool.{cases_eq}
use Rattle.std.proofs.lemmas.Nat.Bits.{bit_at_set_same, bit_at_set_other}
use Rattle.std.proofs.lemmas.List.{get_or_read, set-get_or}
use Rattle.std.proofs.lemmas.List.FromFn.{length-map-range_with_len, map-range_with_len_more}
use Rattle.arrow_array.specs.Bits.{bit_of, boolean_of, booleans_of}
use Rattle.arrow_flat.specs.Bits.{HoldBits, CountsDown}

abbrev with_bit : List ℕ → ℕ → ℕ → Bool → List ℕ
with_bit ws i w v = slice_set ws (i / 64) (bit_or w (from_bool v * 2 ^ (i % 64) % 18446744073709551616))

-- a bit that is not set changes no word
unchanged : (ws : List ℕ) (i w : ℕ) → w ≡ get_or ws (i / 64) w → with_bit ws i w false ≡ ws
unchanged ws i w r =
    let z : 0 * 2 ^ (i % 64) % 18446744073709551616 ≡ 0 = omega arith in
    rw (z, or_zero_r w) (ap (slice_set ws (i / 64)) r ∙ set-get_or ws (i / 64) w)

pub written_here : (ws : List ℕ) (i w : ℕ) (v : Bool) → i < 64 * length ws → w ≡ get_or ws (i / 64) w → bit_of ws i ≡ 0 → boolean_of (with_bit ws i w v) i ≡ v
written_here ws i w true h r z =
    let l : i / 64 < length ws = omega arith in
    let m : i % 64 < 64 = omega arith in
    let here : bit_of (with_bit ws i w true) i ≡ 1 = rw (get_or-set_same ws (i / 64) (bit_or w (1 * 2 ^ (i % 64) % 18446744073709551616)) 0 l) (bit_at_set_same w64 w (i % 64) m) in
    ap (λ b. eqb b 1) here
written_here ws i w false h r z = ap (λ xs. boolean_of xs i) (unchanged ws i w r) ∙ ap (λ b. eqb b 1) z

pub written_apart : (ws : List ℕ) (i w k : ℕ) (v : Bool) → i < 64 * length ws → w ≡ get_or ws (i / 64) w → k ≢ i → bit_of (with_bit ws i w v) k ≡ bit_of ws k
written_apart ws i w k true h r ne =
    let l : i / 64 < length ws = omega arith in
    let m : i % 64 < 64 = omega arith in
    elim (cases_eq (k / 64) (i / 64)) [
      | inl e ↦ rw e (rw (get_or-set_same ws (i / 64) (bit_or w (1 * 2 ^ (i % 64) % 18446744073709551616)) 0 l)
          (rw (← get_or_read ws (i / 64) w l r 0) (bit_at_set_other w64 w (i % 64) m (k % 64) (λ p. ne (omega (arith, e, p))))))
      | inr d ↦ rw (get_or-set_other ws (i / 64) (k / 64) (bit_or w (1 * 2 ^ (i % 64) % 18446744073709551616)) 0 d) refl
    ]
written_apart ws i w k false h r ne = ap (λ xs. bit_of xs k) (unchanged ws i w r)

-- a word of zeros after the last changes no bit
word_push : (ws : List ℕ) (j : ℕ) → get_or (ws ++ 0 ∷ []) j 0 ≡ get_or ws j 0
word_push [] zero = refl
word_push [] (suc j) = refl
word_push (w ∷ ws) zero = refl
word_push (w ∷ ws) (suc j) = word_push ws j

pub bit_of_push : (ws : List ℕ) (k : ℕ) → bit_of (ws ++ 0 ∷ []) k ≡ bit_of ws k
bit_of_push ws k = ap (λ w. bit_at w (k % 64)) (word_push ws (k / 64))

-- the same items, made by index
pub made_alike : {X : Type 0} (f g : ℕ → X) (s a n : ℕ) → ((i : ℕ) → i < n → f (s + i) ≡ g (a + i)) → map f (range_with_len s n) ≡ map g (range_with_len a n)
made_alike f g s a zero h = refl
made_alike f g s a (suc n) h =
    let t : map f (range_with_len (s + 1) n) ≡ map g (range_with_len (a + 1) n) = made_alike f g (s + 1) (a + 1) n (λ i l. let e : s + 1 + i ≡ s + (i + 1) = omega arith in let d : a + 1 + i ≡ a + (i + 1) = omega arith in rw (e, d) (h (i + 1) (omega (arith, l)))) in
    let u : f s ≡ g a = simp unary_clauses at (h 0 (omega arith)) in
    rw (t, u) refl

pub length-booleans : (ws : List ℕ) (s n : ℕ) → length (booleans_of ws s n) ≡ n
length-booleans ws s n = length-map-range_with_len (boolean_of ws) s n

-- one boolean more, where no other bit is changed
pub booleans-push : (old new : List ℕ) (n : ℕ) (v : Bool) → ((k : ℕ) → k < n → bit_of new k ≡ bit_of old k) → boolean_of new n ≡ v → booleans_of new 0 (n + 1) ≡ booleans_of old 0 n ++ v ∷ []
booleans-push old new n v same here =
    let m : booleans_of new 0 (n + 1) ≡ booleans_of new 0 n ++ boolean_of new n ∷ [] = map-range_with_len_more (boolean_of new) 0 n n (omega arith) in
    let a : booleans_of new 0 n ≡ booleans_of old 0 n = made_alike (boolean_of new) (boolean_of old) 0 0 n (λ i l. let e : 0 + i ≡ i = omega arith in rw e (ap (λ b. eqb b 1) (same i l))) in
    m ∙ (rw (a, here) refl)

-- what holds of the words once bit n is written, over what they were before
pub record Written (old new : List ℕ) (n : ℕ) (v : Bool) : Type 0 where
  pub within : n < 64 * length new
  pub tight : 64 * length new < n + 65
  pub same : (k : ℕ) → k ≢ n → bit_of new k ≡ bit_of old k
  pub here : boolean_of new n ≡ v

pub HoldBits-push : (old new : List ℕ) (n : ℕ) (v : Bool) → HoldBits old n → Written old new n v → n + 65 ≤ 2 ^ 63 → HoldBits new (n + 1)
HoldBits-push old new n v p w f = record {
  enough = omega (arith, w.within);
  tight = omega (arith, w.tight);
  clear = λ k h. w.same k (omega (arith, h)) ∙ p.clear k (omega (arith, h));
  fits = omega (arith, f);
}

pub booleans-written : (old new : List ℕ) (n : ℕ) (v : Bool) → Written old new n v → booleans_of new 0 (n + 1) ≡ booleans_of old 0 n ++ v ∷ []
booleans-written old new n v w = booleans-push old new n v (λ k l. w.same k (omega (arith, l))) w.here

-- where a bit is written no slot is counted
pub none_counted : (bits : List Bool) (spare capacity free : ℕ) → CountsDown bits spare capacity free → 0 < length bits → capacity ≡ 0
none_counted bits spare zero free c lt = refl
none_counted bits spare (suc n) free c lt = absurd (omega (arith, lt, ap length (c.apart (omega arith))))
