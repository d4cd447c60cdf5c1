-- Blocks of bytes that are tested at once.
use Rattle.std.proofs.Common.{◌≡◌, ℕ, ◌<◌, ◌%◌, ◌^◌, Bool, true, false, not, ◌&&◌, cond, eqb, leb, ltb, List, length, map, replicate, bit_or, refl, sym, ap, ◌∙◌, arith}
use Rattle.std.proofs.lemmas.Bool.Decides.{nat_tests}
use Rattle.std.proofs.lemmas.List.{length-map}
use Rattle.std.proofs.lemmas.Simd.{zip2_splat, zip2_of_maps, map-map, mask_l-mod, leading_from_mask_l, trailing_mask_l}
use Rattle.std.specs.List.{prefix_len}
use Rattle.std.specs.Simd.Lanes.{zip2, mask_l, top}
use Rattle.arrow_base.specs.JsonString.{is_unescaped}
use lib.Count.{count_trailing_zeros}

-- the lane of a byte, all ones where it does not stand for itself
abbrev stop : ℕ → ℕ
stop x = bit_or (bit_or (cond (ltb x 32) 255 0) (cond (eqb x 34) 255 0)) (cond (eqb x 92) 255 0)

abbrev stops : ℕ → Bool
stops x = top 7 (stop x)

-- a bit for each byte
abbrev pub mask_of : List ℕ → ℕ
mask_of xs =
    let low = zip2 (λ a b. cond (ltb a b) 255 0) xs (replicate 16 32) in
    let quote = zip2 (λ a b. cond (eqb a b) 255 0) xs (replicate 16 34) in
    let escape = zip2 (λ a b. cond (eqb a b) 255 0) xs (replicate 16 92) in
    mask_l (map (top 7) (zip2 bit_or (zip2 bit_or low quote) escape)) % 2 ^ 64

mask-stops : (xs : List ℕ) → length xs ≡ 16 → mask_of xs ≡ mask_l (map stops xs)
mask-stops xs n =
    let low = zip2_splat (λ a b. cond {A = ℕ} (ltb a b) 255 0) xs 16 32 n in
    let quote = zip2_splat (λ a b. cond {A = ℕ} (eqb a b) 255 0) xs 16 34 n in
    let escape = zip2_splat (λ a b. cond {A = ℕ} (eqb a b) 255 0) xs 16 92 n in
    let two = zip2_of_maps bit_or _ _ xs low quote in
    let lanes = zip2_of_maps bit_or _ _ xs two escape in
    ap (λ ys. mask_l (map (top 7) ys) % 2 ^ 64) lanes
    ∙ ap (λ ms. mask_l ms % 2 ^ 64) (map-map (top 7) stop xs)
    ∙ mask_l-mod (map stops xs) 64 (omega (arith, n, length-map xs stops))

not-below : (x : ℕ) → not (ltb x 32) ≡ leb 32 x
not-below x = grind (arith, nat_tests)

passes : (x : ℕ) → not (stops x) ≡ is_unescaped x
unfolding is_unescaped
passes x = at (ltb x 32) (eqb x 34) (eqb x 92) ∙ ap (λ a. a && (not (eqb x 34) && not (eqb x 92))) (not-below x)
  where
    at : (a b c : Bool) → not (top 7 (bit_or (bit_or (cond a 255 0) (cond b 255 0)) (cond c 255 0))) ≡ not a && (not b && not c)
    at true true true = refl
    at true true false = refl
    at true false true = refl
    at true false false = refl
    at false true true = refl
    at false true false = refl
    at false false true = refl
    at false false false = refl

run-same : (xs : List ℕ) → prefix_len (λ x. not (stops x)) xs ≡ prefix_len is_unescaped xs
run-same xs = ap (λ p. prefix_len p xs) (λ i x. passes x i)

-- no bit is set
pub block-whole : (xs : List ℕ) → length xs ≡ 16 → mask_of xs ≡ 0 → 16 ≡ prefix_len is_unescaped xs
block-whole xs n e = sym (sym (run-same xs) ∙ leading_from_mask_l stops xs (sym (mask-stops xs n) ∙ e) ∙ n)

-- the lowest bit that is set
pub block-stops : (xs : List ℕ) → length xs ≡ 16 → 0 < mask_of xs → count_trailing_zeros 64 (mask_of xs) ≡ prefix_len is_unescaped xs
block-stops xs n l =
    let e = mask-stops xs n in
    ap (count_trailing_zeros 64) e ∙ trailing_mask_l stops 64 xs (omega (arith, n)) (omega (arith, l, e)) ∙ run-same xs
