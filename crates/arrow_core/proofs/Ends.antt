-- Bytes that are ASCII because the lanes of a vector are, or the first of them and the last of them.
use Rattle.std.proofs.Common.{◌≡◌, ℕ, zero, suc, ◌+◌, ◌-◌, ◌*◌, ◌%◌, ◌^◌, ◌<◌, ◌≤◌, ◌⊎◌, inl, inr, Bool, true, false, ◌&&◌, cond, eqb, leb, List, [], ◌∷◌, map, length, replicate, drop, refl, sym, ap, ◌∙◌, subst, arith, get_or-drop, eqb-true, leb-false}
use Rattle.std.specs.Prelude.{slice_index}
use Rattle.std.specs.Str.{IsAscii}
use Rattle.std.proofs.lemmas.Bool.{cases_lt}
use Rattle.std.proofs.lemmas.List.{get_or_past, length-map}
use Rattle.std.proofs.lemmas.Simd.{get_or-chunk, length-zip2, mask_l-mod}
use lib.Lanes.{chunk, zip2, mask_l, top}

-- ---- the lanes of a vector

-- all ones in a lane whose byte is a or more
abbrev reaches : ℕ → ℕ → ℕ
reaches a b = cond (leb a b) 255 0

-- a bit for each byte of 128 or more
abbrev high_bits : ℕ → List ℕ → ℕ
high_bits n xs = mask_l (map (top 7) (zip2 reaches (replicate n 128) xs))

ascii_from_no_bit : (xs : List ℕ) → high_bits (length xs) xs ≡ 0 → IsAscii xs
ascii_from_no_bit [] e i = omega arith
ascii_from_no_bit (x ∷ xs) e zero = from (leb 128 x) refl (omega (arith, e))
  where
    from : (t : Bool) → leb 128 x ≡ t → ◌≡◌ {A = ℕ} (cond (top 7 (cond t 255 0)) 1 0) 0 → x < 128
    from true is bit = absurd (omega (arith, bit))
    from false is bit = leb-false 128 x is
ascii_from_no_bit (x ∷ xs) e (suc i) = ascii_from_no_bit xs (omega (arith, e)) i

pub ascii_lanes : (n : ℕ) (xs : List ℕ) → n ≤ 64 → length {A = ℕ} (replicate n 128) ≡ n → length xs ≡ n → eqb (high_bits n xs % 2 ^ 64) 0 ≡ true → IsAscii xs
ascii_lanes n xs few all long e =
    let lanes = length-zip2 reaches (replicate n 128) xs (all ∙ sym long) in
    let bits = length-map (zip2 reaches (replicate n 128) xs) (top 7) in
    ascii_from_no_bit xs (ap (λ m. high_bits m xs) long ∙ sym (mask_l-mod _ 64 (omega (arith, few, all, lanes, bits))) ∙ eqb-true _ _ e)

-- ---- both ends

pub both_true : (a b : Bool) → (a && b) ≡ true → (a ≡ true) × (b ≡ true)
both_true true true e = (refl, refl)
both_true true false e = absurd cc
both_true false b e = absurd cc

same : (bytes : List ℕ) (i j : ℕ) → i ≡ j → slice_index bytes i ≡ slice_index bytes j
same bytes i j e = ap (λ k. slice_index bytes k) e

-- of no more than 2 n bytes, the first n and the last n are all
pub ascii_ends : (n : ℕ) (bytes : List ℕ) → n ≤ length bytes → length bytes ≤ 2 * n → IsAscii (chunk 0 n bytes) → IsAscii (chunk 0 n (drop (length bytes - n) bytes)) → IsAscii bytes
ascii_ends n bytes low high first last k = from (cases_lt k n) (cases_lt k (length bytes))
  where
    from : (k < n) ⊎ (n ≤ k) → (k < length bytes) ⊎ (length bytes ≤ k) → slice_index bytes k < 128
    from (inl lt) within = subst (λ b. b < 128) (get_or-chunk 0 n bytes k 0 lt ∙ same bytes (0 + k) k (omega arith)) (first k)
    from (inr ge) (inl lt) =
        let start = length bytes - n in
        let i = k - start in
        let here : start + i ≡ k = omega (arith, low, high, ge) in
        subst (λ b. b < 128) (get_or-chunk 0 n (drop start bytes) i 0 (omega (arith, low, lt)) ∙ same (drop start bytes) (0 + i) i (omega arith) ∙ get_or-drop start bytes i 0 ∙ same bytes (start + i) k here) (last i)
    from (inr ge) (inr past) = rw (get_or_past bytes k 0 past) (omega arith)
