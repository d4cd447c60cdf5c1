-- The integers that bytes in two's complement stand for, the high byte first.
use Rattle.std.proofs.Common.{◌≡◌, ◌∙◌, ◌⊎◌, inl, inr, ℕ, suc, ◌+◌, ◌-◌, ◌*◌, ◌^◌, ◌<◌, ◌≤◌, cond, ℤ, pos, negsuc, List, [], ◌∷◌, ◌++◌, length, take, sym, ap, refl, arith}
use Rattle.std.specs.Prelude.{nat_lt, ◌-ℤ◌, ◌+ℤ◌, ◌*ℤ◌, neg_ℤ, ◌≤ℤ◌, ◌<ℤ◌, slice_index}
use Rattle.std.specs.Int.{w8, cast_signed}
use Rattle.std.proofs.lemmas.Int.{ints}
use Rattle.std.proofs.lemmas.Bool.{cases_lt, lt-ltb, le-ltb}
use Rattle.std.proofs.lemmas.List.{length-append, take_more}
use Rattle.std.proofs.Math.Nat.{mul_left_comm, pow-succ', pow-le-pow_right}
use Rattle.avro_schema.specs.Encodes.{big_endian, twos_complement}

-- v is the integer of bytes that are the number n, and 256 * q numbers are as long
abbrev pub Signed : ℕ → ℕ → ℤ → Type 0
Signed q n v = ((v ≡ pos n) × (n < 128 * q)) ⊎ ((v ≡ pos n -ℤ pos (256 * q)) × (128 * q ≤ n) × (n < 256 * q))

-- ---- the number of bytes

one_byte : (b : ℕ) → big_endian (b ∷ []) ≡ b
one_byte b = omega arith

pub big_endian_end : (xs : List ℕ) (b : ℕ) → big_endian (xs ++ b ∷ []) ≡ 256 * big_endian xs + b
big_endian_end [] b = omega arith
big_endian_end (x ∷ xs) b =
    let e = big_endian_end xs b in
    let l : length (xs ++ b ∷ []) ≡ suc (length xs) = omega (arith, length-append xs (b ∷ [])) in
    let p : 256 ^ length (xs ++ b ∷ []) ≡ 256 * 256 ^ length xs = ap (λ k. 256 ^ k) l ∙ pow-succ' 256 (length xs) in
    let m : x * 256 ^ length (xs ++ b ∷ []) ≡ 256 * (x * 256 ^ length xs) = ap (λ k. x * k) p ∙ mul_left_comm x 256 (256 ^ length xs) in
    omega (arith, e, m)

-- ---- one byte after another

start : (b : ℕ) → b < 256 → Signed 1 b (cast_signed w8 b)
start b lt = from (cases_lt b 128)
  where
    from : (b < 128) ⊎ (128 ≤ b) → Signed 1 b (cast_signed w8 b)
    from (inl l) = inl (omega (arith, ints, l), omega (arith, l))
    from (inr g) =
        let e : cast_signed w8 b ≡ negsuc (256 - suc b) = rw (le-ltb b 128 g) refl in
        inr (e ∙ omega (arith, ints, g, lt), omega (arith, g), omega (arith, lt))

next : (q n b : ℕ) (v : ℤ) → b < 256 → Signed q n v → Signed (256 * q) (256 * n + b) (pos 256 *ℤ v +ℤ pos b)
next q n b v lt (inl s) = inl (omega (arith, ints, s.0), omega (arith, s.1, lt))
next q n b v lt (inr s) = inr (omega (arith, ints, s.0), omega (arith, s.1), omega (arith, s.2, lt))

range : (q n : ℕ) (v : ℤ) → q ≤ 256 ^ 14 → Signed q n v → (neg_ℤ (pos (2 ^ 119)) ≤ℤ v) × (v <ℤ pos (2 ^ 119))
range q n v le (inl s) = (omega (arith, ints, le, s.0, s.1), omega (arith, ints, le, s.0, s.1))
range q n v le (inr s) = (omega (arith, ints, le, s.0, s.1, s.2), omega (arith, ints, le, s.0, s.1, s.2))

-- v is the integer of the first byte and the next k
abbrev pub SignedTo : ℕ → List ℕ → ℕ → ℤ → Type 0
SignedTo first rest k v = Signed (256 ^ k) (big_endian (first ∷ take k rest)) v

pub signed_start : (first : ℕ) (rest : List ℕ) → first < 256 → SignedTo first rest 0 (cast_signed w8 first)
signed_start first rest lt = rw (one_byte first) (start first lt)

pub signed_next : (first : ℕ) (rest : List ℕ) (k : ℕ) (v : ℤ) → k < length rest → slice_index rest k < 256 → SignedTo first rest k v → SignedTo first rest (k + 1) (pos 256 *ℤ v +ℤ pos (slice_index rest k))
signed_next first rest k v lt byte s =
    let t : first ∷ take (k + 1) rest ≡ (first ∷ take k rest) ++ slice_index rest k ∷ [] = ap (λ (xs : List ℕ). first ∷ xs) (take_more rest k 0 lt) in
    let e = ap big_endian t ∙ big_endian_end (first ∷ take k rest) (slice_index rest k) in
    let p : 256 ^ (k + 1) ≡ 256 * 256 ^ k = ap (λ m. 256 ^ m) (omega arith) ∙ pow-succ' 256 k in
    rw (e, p) (next (256 ^ k) (big_endian (first ∷ take k rest)) (slice_index rest k) v byte s)

pub signed_range : (first : ℕ) (rest : List ℕ) (k : ℕ) (v : ℤ) → k ≤ 14 → SignedTo first rest k v → (neg_ℤ (pos (2 ^ 119)) ≤ℤ v) × (v <ℤ pos (2 ^ 119))
signed_range first rest k v le s = range (256 ^ k) (big_endian (first ∷ take k rest)) v (pow-le-pow_right {n = 256} (omega arith) le) s

-- ---- the whole

abbrev signed_by : ℕ → ℕ → ℤ
signed_by n m = cond (nat_lt (2 * n) m) (pos n) (pos n -ℤ pos m)

signed_is : (q m n : ℕ) (v : ℤ) → m ≡ 256 * q → Signed q n v → v ≡ signed_by n m
signed_is q m n v p (inl s) =
    let e : signed_by n m ≡ pos n = rw (lt-ltb (2 * n) m (omega (arith, p, s.1))) refl in
    s.0 ∙ sym e
signed_is q m n v p (inr s) =
    let e : signed_by n m ≡ pos n -ℤ pos m = rw (le-ltb (2 * n) m (omega (arith, p, s.1))) refl in
    s.0 ∙ ap (λ k. pos n -ℤ pos k) (sym p) ∙ sym e

pub signed_whole : (bytes rest : List ℕ) (first : ℕ) (k : ℕ) (v : ℤ) → bytes ≡ first ∷ rest → take k rest ≡ rest → k ≡ length rest → SignedTo first rest k v → v ≡ twos_complement bytes
signed_whole bytes rest first k v e t l s =
    let m : 256 ^ length bytes ≡ 256 * 256 ^ k = ap (λ (xs : List ℕ). 256 ^ length xs) e ∙ pow-succ' 256 (length rest) ∙ ap (λ n. 256 * 256 ^ n) (sym l) in
    let n : big_endian (first ∷ take k rest) ≡ big_endian bytes = ap (λ (xs : List ℕ). big_endian (first ∷ xs)) t ∙ ap big_endian (sym e) in
    signed_is (256 ^ k) (256 ^ length bytes) (big_endian bytes) v m (rw (sym n) s)
