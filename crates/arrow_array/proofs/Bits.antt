-- Bits that are set and read.
use Rattle.std.proofs.Common.{◌≡◌, sym, ◌≢◌, inl, inr, false, nat_eq, bit_and, ℕ, ◌+◌, ◌*◌, ◌/◌, ◌%◌, ◌^◌, ◌<◌, ◌≤◌, List, length, take, drop, slice_index_or, slice_set, bit_or, refl, arith, w64, get_or-set_same, get_or-set_other, get_or-drop, ap, length-drop, ◌-◌, count_by, not, ◌∙◌, ◌==◌, ◌++◌, ◌∷◌, [], zero, suc, Bool, true, below_more, length-append}
use Rattle.std.proofs.lemmas.Grind.{common_steps}
use Rattle.std.proofs.lemmas.Bool.{cases_eq}
use Rattle.std.proofs.lemmas.Nat.Bits.{bit_at_set_same, bit_at_set_other, shr_and_one}
use Rattle.std.specs.List.{filter, range_with_len}
use Rattle.std.proofs.lemmas.List.FromFn.{length-range_with_len, length-map-range_with_len, get_or-map-range_with_len}
use Rattle.arrow_array.specs.Bits.{bit_of, boolean_of, booleans_of, Packed, packed_of}
use Rattle.arrow_array.proofs.Counts.{unset_others}
use Rattle.arrow_array.proofs.BitCuts.{cut_made, made_alike}

zero_at : (ws : List ℕ) (j : ℕ) → slice_index_or (ws ++ 0 ∷ []) j 0 ≡ slice_index_or ws j 0
zero_at [] zero = refl
zero_at [] (suc j) = refl
zero_at (w ∷ ws) zero = refl
zero_at (w ∷ ws) (suc j) = zero_at ws j

abbrev with_bit : List ℕ → ℕ → List ℕ
with_bit ws i = slice_set ws (i / 64) (bit_or (slice_index_or ws (i / 64) 0) (1 * 2 ^ (i % 64) % 18446744073709551616))

pub set_here : (ws : List ℕ) (i : ℕ) → i < 64 * length ws → bit_of (with_bit ws i) i ≡ 1
set_here ws i h =
    let l : i / 64 < length ws = omega arith in
    let m : i % 64 < 64 = omega arith in
    rw (get_or-set_same ws (i / 64) (bit_or (slice_index_or ws (i / 64) 0) (1 * 2 ^ (i % 64) % 18446744073709551616)) 0 l)
    (bit_at_set_same w64 (slice_index_or ws (i / 64) 0) (i % 64) m)

pub set_apart : (ws : List ℕ) (i k : ℕ) → i < 64 * length ws → k ≢ i → bit_of (with_bit ws i) k ≡ bit_of ws k
set_apart ws i k h ne =
    let l : i / 64 < length ws = omega arith in
    let m : i % 64 < 64 = omega arith in
    elim (cases_eq (k / 64) (i / 64)) [
      | inl e ↦ rw e (rw (get_or-set_same ws (i / 64) (bit_or (slice_index_or ws (i / 64) 0) (1 * 2 ^ (i % 64) % 18446744073709551616)) 0 l)
          (bit_at_set_other w64 (slice_index_or ws (i / 64) 0) (i % 64) m (k % 64) (λ p. ne (omega (arith, e, p)))))
      | inr d ↦ rw (get_or-set_other ws (i / 64) (k / 64) (bit_or (slice_index_or ws (i / 64) 0) (1 * 2 ^ (i % 64) % 18446744073709551616)) 0 d) refl
    ]

-- one more word of zeros changes no bit
pub zero_word : (ws : List ℕ) (k : ℕ) → bit_of (ws ++ 0 ∷ []) k ≡ bit_of ws k
zero_word ws k = ap (λ (w : ℕ). w / 2 ^ (k % 64) % 2) (zero_at ws (k / 64))

-- a vector whose items were written over has the new ones
pub written : (n : ℕ) (new us : List ℕ) → n ≡ length us → length new ≡ length us → take n (new ++ drop (length new) us) ≡ new
written n new us h len = grind (arith, common_steps)

-- there is a word for bit i, and it changes no bit
abbrev pub HasWord : List ℕ → List ℕ → ℕ → Type 0
HasWord ws us i = (i < 64 * length us) × (64 * length us < i + 1 + 64) × ((k : ℕ) → bit_of us k ≡ bit_of ws k)

module _ (ws us : List ℕ) (i : ℕ) (reached : i ≤ 64 * length ws) (close : 64 * length ws < i + 64) where
  pub word_pushed : us ≡ ws ++ 0 ∷ [] → i % 64 ≡ 0 → HasWord ws us i
  word_pushed e first =
      let len : length us ≡ length ws + 1 = ap length e ∙ length-append ws (0 ∷ []) in
      (omega (arith, len), omega (arith, len, first), λ k. ap (λ (l : List ℕ). bit_of l k) e ∙ zero_word ws k)

  pub word_there : us ≡ ws → i % 64 ≢ 0 → HasWord ws us i
  word_there e later =
      let len : length us ≡ length ws = ap length e in
      (omega (arith, len, later), omega (arith, len), λ k. ap (λ (l : List ℕ). bit_of l k) e)

-- bit i is boolean i, and the others are as before
abbrev pub HasBit : List ℕ → List ℕ → List Bool → ℕ → Type 0
HasBit us vs xs i = (length vs ≡ length us) × (boolean_of vs i ≡ slice_index_or xs i false) × ((k : ℕ) → k ≢ i → bit_of vs k ≡ bit_of us k)

module _ (us vs : List ℕ) (xs : List Bool) (i : ℕ) where
  pub bit_set : (lent new : List ℕ) → vs ≡ new → lent ≡ us → length new ≡ length lent → bit_of new i ≡ 1 → ((k : ℕ) → k ≢ i → bit_of new k ≡ bit_of lent k)
      → slice_index_or xs i false ≡ true → HasBit us vs xs i
  bit_set lent new e d len set others t = (
    ap length e ∙ len ∙ ap length d,
    ap (λ (l : List ℕ). boolean_of l i) e ∙ ap (λ (b : ℕ). b == 1) set ∙ sym t,
    λ k ne. ap (λ (l : List ℕ). bit_of l k) e ∙ others k ne ∙ ap (λ (l : List ℕ). bit_of l k) d,
  )

  pub bit_unset : vs ≡ us → bit_of us i ≡ 0 → slice_index_or xs i false ≡ false → HasBit us vs xs i
  bit_unset e zero_bit f = (
    ap length e,
    ap (λ (l : List ℕ). boolean_of l i) e ∙ ap (λ (b : ℕ). b == 1) zero_bit ∙ sym f,
    λ k ne. ap (λ (l : List ℕ). bit_of l k) e,
  )

-- the first i booleans are packed, and no bit is set after them
abbrev pub PackedBelow : List ℕ → List Bool → ℕ → Type 0
PackedBelow ws xs i = (i ≤ 64 * length ws) × (64 * length ws < i + 64) × ((k : ℕ) → k < i → boolean_of ws k ≡ slice_index_or xs k false) × ((k : ℕ) → i ≤ k → bit_of ws k ≡ 0)

pub packed_more : (ws us vs : List ℕ) (xs : List Bool) (i : ℕ) → PackedBelow ws xs i → HasWord ws us i → HasBit us vs xs i → PackedBelow vs xs (i + 1)
packed_more ws us vs xs i h w b = (
  omega (arith, w.0, b.0),
  omega (arith, w.1, b.0),
  below_more (λ k. boolean_of vs k ≡ slice_index_or xs k false) i
      (λ k l. let ne : k ≢ i = omega (arith, l) in ap (λ (d : ℕ). d == 1) (b.2 k ne ∙ w.2 k) ∙ h.2 k l)
      b.1,
  λ k l. let ne : k ≢ i = omega (arith, l) in b.2 k ne ∙ w.2 k ∙ h.3 k (omega (arith, l)),
)

module _ (ws : List ℕ) (s n : ℕ) (v : Packed) (is : packed_of ws s n ≡ v) where
  pub count_is : n ≡ length v.booleans
  count_is = rw (← is) (sym (length-map-range_with_len (boolean_of ws) s n))

  pub covered : s + n ≤ 64 * length ws → v.offset + length v.booleans ≤ 64 * length (drop (s / 64) ws)
  covered h =
      let o : s % 64 ≡ v.offset = ap (λ (p : Packed). p.offset) is in
      let c = count_is in
      omega (arith, o, c, length-drop (s / 64) ws, h)

  pub unset_count : (set : ℕ) → set ≡ count_by (boolean_of ws) (range_with_len s n) → (set ≤ n) × (n - set ≡ length (filter not v.booleans))
  unset_count set e =
      let u = unset_others (boolean_of ws) (range_with_len s n) in
      let l = length-range_with_len s n in
      (omega (arith, u, l, e), rw (← is) (omega (arith, u, l, e)))

  pub read_bit : (i : ℕ) → i < n → nat_eq (bit_and (slice_index_or ws ((s + i) / 64) 0 / 2 ^ ((s + i) % 64)) 1) 1 ≡ slice_index_or v.booleans i false
  read_bit i h = rw (← is) (rw (shr_and_one (slice_index_or ws ((s + i) / 64) 0) ((s + i) % 64)) (sym (get_or-map-range_with_len (boolean_of ws) s n i (s + i) false h refl)))

  pub cut_booleans : (o k : ℕ) → o + k ≤ n → booleans_of ws (s + o) k ≡ take k (drop o v.booleans)
  cut_booleans o k h = rw (← is) (cut_made (boolean_of ws) s (s + o) o n k refl h)

  pub rebased : v.booleans ≡ booleans_of (drop (s / 64) ws) v.offset (length v.booleans)
  rebased = rw (← is) (rw (length-map-range_with_len (boolean_of ws) s n) (made_alike (boolean_of ws) (boolean_of (drop (s / 64) ws)) s (s % 64) n (λ i h.
      let e : s / 64 + (s % 64 + i) / 64 ≡ (s + i) / 64 = omega arith in
      let m : (s % 64 + i) % 64 ≡ (s + i) % 64 = omega arith in
      rw (get_or-drop (s / 64) ws ((s % 64 + i) / 64) 0) (rw (e, m) refl))))
