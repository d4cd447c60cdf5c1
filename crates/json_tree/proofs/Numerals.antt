-- The decimal numeral of a number is an integer of JSON (RFC 8259, section 6).
use Rattle.std.proofs.Common.{◌≡◌, ◌⊎◌, inl, inr, ℕ, zero, suc, ◌+◌, ◌/◌, ◌%◌, ◌^◌, ◌<◌, ◌≤◌, ◌==◌, true, false, List, [], ◌∷◌, ◌++◌, decimal, refl, ap, arith}
use Rattle.std.proofs.lemmas.Bool.Decides.{nat_tests}
use Rattle.std.proofs.lemmas.Fmt.{decimal_by_steps_wide}
use Rattle.json_tree.specs.Grammar.{Each, is_digit, IsInteger}

-- the digits of n, of which the first is 0 where n is alone
abbrev pub IsNumeralOf : ℕ → List ℕ → Type 0
IsNumeralOf n ds =
    ((n ≡ 0) × (ds ≡ 0x30 ∷ []))
    ⊎ ((digit : ℕ) × (more : List ℕ) × (is_digit digit ≡ true) × ((digit == 0x30) ≡ false) × Each is_digit more × (ds ≡ digit ∷ more))

digit_test : (m : ℕ) → m < 10 → is_digit (48 + m) ≡ true
unfolding is_digit
digit_test m l = grind (arith, nat_tests, l)

pushed : (ds : List ℕ) (x : ℕ) → Each is_digit ds → is_digit x ≡ true → Each is_digit (ds ++ x ∷ [])
pushed [] x h e = (e, tt)
pushed (d ∷ ds) x h e = (h.0, pushed ds x h.1 e)

one_digit : (n : ℕ) → n < 10 → IsNumeralOf n ((48 + n) ∷ [])
one_digit zero l = inl (refl, refl)
one_digit (suc n) l = inr (48 + suc n, [], digit_test (suc n) l, grind (arith, nat_tests), tt, refl)

last_digit : (n : ℕ) (ds : List ℕ) → 10 ≤ n → IsNumeralOf (n / 10) ds → IsNumeralOf n (ds ++ ((48 + n % 10) ∷ []))
last_digit n ds l (inl h) = absurd (omega (arith, h.0))
last_digit n ds l (inr h) =
    inr (h.0, h.1 ++ ((48 + n % 10) ∷ []), h.2, h.3, pushed h.1 (48 + n % 10) h.4 (digit_test (n % 10) (omega arith)), ap (λ k. k ++ ((48 + n % 10) ∷ [])) h.5)

pub decimal_is_numeral : (n : ℕ) → n < 10 ^ 64 → IsNumeralOf n (decimal n)
decimal_is_numeral n l = decimal_by_steps_wide IsNumeralOf one_digit last_digit n l

pub is_integer : (n : ℕ) (ds : List ℕ) → IsNumeralOf n ds → IsInteger ds
is_integer n ds (inl h) = inl h.1
is_integer n ds (inr h) = inr h
