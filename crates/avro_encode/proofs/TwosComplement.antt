-- What the bytes of a decimal stand for.
use Rattle.std.proofs.lemmas.Int.{ints}
use Rattle.std.proofs.Common.{◌≡◌, ℕ, zero, suc, ◌+◌, ◌-◌, ◌*◌, ◌/◌, ◌%◌, ◌^◌, ◌<◌, ◌≤◌, cond, drop, set, append_assoc, ℤ, pos, negsuc, List, [], ◌∷◌, ◌++◌, length, refl, sym, ◌∙◌, ap, arith, length-append, inl, inr}
use Rattle.std.specs.Prelude.{nat_lt, ◌-ℤ◌}
use Rattle.std.proofs.lemmas.Bool.{cases_lt, lt-ltb, le-ltb}
use Rattle.std.proofs.Math.Nat.{pow-succ'}
use Rattle.avro_schema.specs.Encodes.{big_endian, twos_complement}
use Rattle.avro_encode.specs.Decimals.{high_first, even_size, decimal}
use Rattle.avro_encode.specs.Pairs.{IsDecimal}

pub high_none : (n : ℕ) → high_first 0 n ≡ []
unfolding high_first
high_none n = refl

pub high_more : (k n : ℕ) → high_first (suc k) n ≡ high_first k (n / 256) ++ n % 256 ∷ []
unfolding high_first
high_more k n = refl

pub high_length : (k n : ℕ) → length (high_first k n) ≡ k
high_length zero n = ap length (high_none n)
high_length (suc k) n =
    let e : length (high_first k (n / 256)) ≡ k = high_length k (n / 256) in
    ap length (high_more k n) ∙ length-append (high_first k (n / 256)) (n % 256 ∷ []) ∙ omega (arith, e)

big_endian_end : (xs : List ℕ) (d : ℕ) → big_endian (xs ++ d ∷ []) ≡ 256 * big_endian xs + d
big_endian_end [] d = omega arith
big_endian_end (x ∷ xs) d =
    let l : length (xs ++ d ∷ []) ≡ suc (length xs) = length-append xs (d ∷ []) ∙ omega arith in
    let e : big_endian (xs ++ d ∷ []) ≡ 256 * big_endian xs + d = big_endian_end xs d in
    let p : x * 256 ^ length (xs ++ d ∷ []) ≡ 256 * (x * 256 ^ length xs) = ap (λ n. x * 256 ^ n) l ∙ shifted x (length xs) in
    omega (arith, e, p)
  where
    shifted : (x n : ℕ) → x * 256 ^ suc n ≡ 256 * (x * 256 ^ n)
    shifted x n = ap (λ m. x * m) (pow-succ' 256 n) ∙ turned x (256 ^ n)
      where
        turned : (x m : ℕ) → x * (256 * m) ≡ 256 * (x * m)
        turned x m = omega arith

high_value : (k n : ℕ) → n < 256 ^ k → big_endian (high_first k n) ≡ n
high_value zero n h = ap big_endian (high_none n) ∙ omega (arith, h)
high_value (suc k) n h =
    let p : 256 ^ suc k ≡ 256 * 256 ^ k = pow-succ' 256 k in
    let e : big_endian (high_first k (n / 256)) ≡ n / 256 = high_value k (n / 256) (omega (arith, p, h)) in
    ap big_endian (high_more k n) ∙ big_endian_end (high_first k (n / 256)) (n % 256) ∙ omega (arith, e)

-- the value by the number that the bytes are, and how many they are
abbrev signed_by : ℕ → ℕ → ℤ
signed_by n k = cond (nat_lt (2 * n) (256 ^ k)) (pos n) (pos n -ℤ pos (256 ^ k))

twos_by : (k n : ℕ) → n < 256 ^ k → twos_complement (high_first k n) ≡ signed_by n k
twos_by k n h = λ i. signed_by (high_value k n h i) (high_length k n i)

twos_positive : (k n : ℕ) → 2 * n < 256 ^ k → twos_complement (high_first k n) ≡ pos n
twos_positive k n h = twos_by k n (omega (arith, h)) ∙ rw (lt-ltb (2 * n) (256 ^ k) h) refl

by_size : (P : ℕ → Type 0) (n a x y : ℕ) → (n < a → P x) → P y → P (cond (nat_lt n a) x y)
by_size P n a x y f g =
    elim (cases_lt n a) [
      | inl small ↦ rw (lt-ltb n a small) (f small)
      | inr large ↦ rw (le-ltb n a large) g
    ]

record Enough (n k : ℕ) : Type 0 where
  pub holds : 2 * n < 256 ^ k
  pub short : k ≤ 16

even_enough : (n : ℕ) → n < 2 ^ 127 → Enough n (even_size n)
even_enough n h =
    by_size (Enough n) n (2 ^ 15) _ _ (λ l. record { holds = omega (arith, l); short = omega arith })
    (by_size (Enough n) n (2 ^ 31) _ _ (λ l. record { holds = omega (arith, l); short = omega arith })
    (by_size (Enough n) n (2 ^ 47) _ _ (λ l. record { holds = omega (arith, l); short = omega arith })
    (by_size (Enough n) n (2 ^ 63) _ _ (λ l. record { holds = omega (arith, l); short = omega arith })
    (by_size (Enough n) n (2 ^ 79) _ _ (λ l. record { holds = omega (arith, l); short = omega arith })
    (by_size (Enough n) n (2 ^ 95) _ _ (λ l. record { holds = omega (arith, l); short = omega arith })
    (by_size (Enough n) n (2 ^ 111) _ _ (λ l. record { holds = omega (arith, l); short = omega arith })
    (record { holds = omega (arith, h); short = omega arith })))))))

pub decimal_short : (v : ℤ) → IsDecimal v → length (decimal v) ≤ 16
decimal_short (pos zero) h = omega arith
decimal_short (pos (suc n)) h =
    let l : suc n < 2 ^ 127 = omega (arith, ints, h.1) in
    let e : length (high_first (even_size (suc n)) (suc n)) ≡ even_size (suc n) = high_length (even_size (suc n)) (suc n) in
    rw e ((even_enough (suc n) l).short)
decimal_short (negsuc n) h = rw (high_length 16 (2 ^ 128 - suc n)) (omega arith)

pub decimal_value : (v : ℤ) → IsDecimal v → twos_complement (decimal v) ≡ v
decimal_value (pos zero) h = refl
decimal_value (pos (suc n)) h =
    let l : suc n < 2 ^ 127 = omega (arith, ints, h.1) in
    twos_positive (even_size (suc n)) (suc n) ((even_enough (suc n) l).holds)
decimal_value (negsuc n) h =
    let l : n < 2 ^ 127 = omega (arith, ints, h.0) in
    let c : 256 ^ 16 ≤ 2 * (2 ^ 128 - suc n) = omega (arith, l) in
    twos_by 16 (2 ^ 128 - suc n) (omega (arith, l)) ∙ rw (le-ltb (2 * (2 ^ 128 - suc n)) (256 ^ 16) c) (omega (arith, ints, l))

-- ---- the bytes that are written from the back

drop_set : (xs : List ℕ) (k d : ℕ) → k < length xs → drop k (set xs k d) ≡ d ∷ drop (suc k) xs
drop_set [] k d h = absurd (omega (arith, h))
drop_set (x ∷ xs) zero d h = refl
drop_set (x ∷ xs) (suc k) d h = drop_set xs k d (omega (arith, h))

-- one more byte was written before the others
pub written_more : (xs all : List ℕ) (size done n : ℕ) → length xs ≡ 16 → size ≤ 16 → done < size → high_first (size - done) n ++ drop (16 - done) xs ≡ all
    → high_first (size - (done + 1)) (n / 256) ++ drop (16 - (done + 1)) (set xs (15 - done) (n % 256)) ≡ all
written_more xs all size done n l s h e =
    let left : size - done ≡ suc (size - (done + 1)) = omega (arith, h) in
    let index_is : 16 - (done + 1) ≡ 15 - done = omega arith in
    let next : suc (15 - done) ≡ 16 - done = omega (arith, h, s) in
    ap (λ k. high_first (size - (done + 1)) (n / 256) ++ drop k (set xs (15 - done) (n % 256))) index_is
    ∙ ap (λ (z : List ℕ). high_first (size - (done + 1)) (n / 256) ++ z) (drop_set xs (15 - done) (n % 256) (omega (arith, h, s, l)))
    ∙ ap (λ k. high_first (size - (done + 1)) (n / 256) ++ (n % 256 ∷ drop k xs)) next
    ∙ sym (append_assoc (high_first (size - (done + 1)) (n / 256)) (n % 256 ∷ []) (drop (16 - done) xs))
    ∙ ap (λ (z : List ℕ). z ++ drop (16 - done) xs) (sym (high_more (size - (done + 1)) n) ∙ ap (λ k. high_first k n) (sym left))
    ∙ e

-- all were written
pub written_all : (xs all : List ℕ) (size done n : ℕ) → size ≡ done → high_first (size - done) n ++ drop (16 - done) xs ≡ all → drop (16 - size) xs ≡ all
written_all xs all size done n h e =
    let none : size - done ≡ 0 = omega (arith, h) in
    ap (λ k. drop (16 - k) xs) h ∙ ap (λ (z : List ℕ). z ++ drop (16 - done) xs) (sym (ap (λ k. high_first k n) none ∙ high_none n)) ∙ e
