-- How many digits an integer has.
use Rattle.std.proofs.Common.{◌≡◌, ℕ, zero, suc, ◌+◌, ◌*◌, ◌/◌, ◌^◌, ◌<◌, ◌≤◌, length, sym, ap, ◌∙◌, arith, length-append}
use Rattle.std.proofs.lemmas.Fmt.{decimal_digit, decimal_nonempty, decimal_step, length-decimal-le}
use Rattle.std.specs.Fmt.{decimal}

-- an integer of at least 10 ^ k has more than k digits
long : (k n : ℕ) → 10 ^ k ≤ n → n < 2 ^ 64 → k < length (decimal n)
long zero n l h = decimal_nonempty n h
long (suc k) n l h =
    let ten : 10 ≤ n = omega (arith, l, positive k) in
    let more = long k (n / 10) (omega (arith, l)) (omega (arith, h)) in
    let step : length (decimal n) ≡ length (decimal (n / 10)) + 1 = ap length (decimal_step n ten h) ∙ length-append _ _ in
    omega (arith, more, step)
  where
    positive : (k : ℕ) → 1 ≤ 10 ^ k
    positive zero = omega arith
    positive (suc k) = omega (arith, positive k)

-- by the power of ten below it
pub digits_are : (k n : ℕ) → 10 ^ k ≤ n → n < 10 * 10 ^ k → n < 2 ^ 64 → k + 1 ≡ length (decimal n)
digits_are k n l u h =
    let up : n < 10 ^ suc k = omega (arith, u) in
    let below = length-decimal-le (suc k) n (omega arith) up h in
    omega (arith, below, long k n l h)

-- 0 has one digit
pub digits_of_zero : (n : ℕ) → n ≡ 0 → 1 ≡ length (decimal n)
digits_of_zero n e = sym (ap (λ m. length (decimal m)) e ∙ ap length (decimal_digit 0 (omega arith)))
