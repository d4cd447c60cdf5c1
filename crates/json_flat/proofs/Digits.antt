-- Digits, and the numbers that they write.
use Rattle.std.proofs.Common.{◌≡◌, ℕ, zero, suc, ◌+◌, ◌*◌, ◌^◌, ◌<◌, ◌≤◌, ◌-◌, true, List, [], ◌∷◌, ◌++◌, length, get_or, take, drop, refl, sym, ap, ◌∙◌, arith, lit≤, lit<}
use Rattle.std.proofs.Math.Nat.{pow-suc, one-le-pow, pow-le-pow_right, le-mul_of_pos_right}
use Rattle.std.proofs.lemmas.Bool.{and_parts, leb-true}
use Rattle.std.proofs.lemmas.Int.Digits.{digits_value-lt}
use Rattle.std.proofs.lemmas.Nat.{div-mul-add}
use Rattle.std.proofs.lemmas.Str.{digit_value_digit}
use Rattle.std.proofs.lemmas.List.{take-append-drop, length-drop}
use Rattle.std.proofs.Math.Seq.{drop-cons}
use Rattle.std.specs.Char.{digit_value, is_ascii_digit}
use Rattle.std.specs.List.{list_all}
use Rattle.std.specs.Prelude.{◌/◌}
use Rattle.std.specs.Str.Parse.{digits_value, digits_value_after, AllDigits}
use Rattle.json_flat.specs.Whole.{are_digits, is_int}

-- each byte that is a digit has a value below 10
digit-lt : (c : ℕ) → is_ascii_digit c ≡ true → digit_value c < 10
digit-lt c h =
    let p = and_parts _ _ h in
    let low = leb-true 48 c p.0 in
    let high = leb-true c 57 p.1 in
    omega (arith, digit_value_digit c (low, high))

pub all-digits : (ds : List ℕ) → list_all is_ascii_digit ds ≡ true → AllDigits 10 ds
all-digits [] h = tt
all-digits (c ∷ cs) h = let p = and_parts _ _ h in (digit-lt c p.0, all-digits cs p.1)

pub digits-of : (ds : List ℕ) → are_digits ds ≡ true → AllDigits 10 ds
digits-of ds h = all-digits ds (and_parts _ _ h).1

pub digits-of-int : (ds : List ℕ) → is_int ds ≡ true → AllDigits 10 ds
digits-of-int ds h = digits-of ds (and_parts _ _ h).0

pub after-append : (n : ℕ) (a b : List ℕ) → digits_value_after 10 n (a ++ b) ≡ digits_value_after 10 (digits_value_after 10 n a) b
after-append n [] b = refl
after-append n (x ∷ a) b = after-append (n * 10 + digit_value x) a b

-- digits behind a number
pub after-weight : (n : ℕ) (b : List ℕ) → digits_value_after 10 n b ≡ n * 10 ^ length b + digits_value 10 b
after-weight n [] = omega arith
after-weight n (x ∷ b) =
    let one = after-weight (n * 10 + digit_value x) b in
    let two = after-weight (0 * 10 + digit_value x) b in
    let more : n * 10 ^ length (x ∷ b) ≡ n * (10 ^ length b * 10) = ap (λ k. n * k) (pow-suc 10 (length b)) in
    omega (arith, one, two, more)

pub after-ge : (n : ℕ) (b : List ℕ) → n ≤ digits_value_after 10 n b
after-ge n b = omega (arith, after-weight n b, le-mul_of_pos_right n (one-le-pow (length b) 10 (omega arith)))

pub append-digits : (a b : List ℕ) → AllDigits 10 a → AllDigits 10 b → AllDigits 10 (a ++ b)
append-digits [] b h k = k
append-digits (x ∷ a) b h k = (h.0, append-digits a b h.1 k)

pub take-digits : (n : ℕ) (a : List ℕ) → AllDigits 10 a → AllDigits 10 (take n a)
take-digits zero a h = tt
take-digits (suc n) [] h = tt
take-digits (suc n) (x ∷ a) h = (h.0, take-digits n a h.1)

pub drop-digits : (n : ℕ) (a : List ℕ) → AllDigits 10 a → AllDigits 10 (drop n a)
drop-digits zero a h = h
drop-digits (suc n) [] h = tt
drop-digits (suc n) (x ∷ a) h = drop-digits n a h.1

-- without its last digits, a number is divided by as many tens
pub cut : (p : ℕ) (ds : List ℕ) → AllDigits 10 ds → digits_value 10 (take p ds) ≡ digits_value 10 ds / 10 ^ (length ds - p)
cut p ds h =
    let prefix = take p ds in
    let back = drop p ds in
    let whole : digits_value 10 ds ≡ digits_value 10 prefix * 10 ^ length back + digits_value 10 back = ap (digits_value 10) (sym (take-append-drop p ds)) ∙ after-append 0 prefix back ∙ after-weight (digits_value 10 prefix) back in
    let small = digits_value-lt 10 back (drop-digits p ds h) in
    let quotient = div-mul-add (digits_value 10 prefix) (10 ^ length back) (digits_value 10 back) small in
    sym quotient ∙ ap (λ k. k / 10 ^ length back) (sym whole) ∙ ap (λ k. digits_value 10 ds / 10 ^ k) (length-drop p ds)

-- one digit more
pub step : (n : ℕ) (ds : List ℕ) (i : ℕ) → i < length ds → digits_value_after 10 n (drop i ds) ≡ digits_value_after 10 (n * 10 + digit_value (get_or ds i 0)) (drop (i + 1) ds)
step n ds i lt =
    let next : suc i ≡ i + 1 = omega arith in
    ap (digits_value_after 10 n) (drop-cons ds i 0 lt) ∙ ap (λ k. digits_value_after 10 (n * 10 + digit_value (get_or ds i 0)) (drop k ds)) next

pub too-many : (n m : ℕ) (ds : List ℕ) (i : ℕ) → i < length ds → digits_value_after 10 n (drop i ds) ≡ m → 2 ^ 128 ≤ n * 10 + digit_value (get_or ds i 0) → 2 ^ 128 ≤ m
too-many n m ds i lt e big =
    let next = n * 10 + digit_value (get_or ds i 0) in
    omega (arith, step n ds i lt, e, big, after-ge next (drop (i + 1) ds))

-- zeros behind a number
pub many-zeros : (n z : ℕ) → (n ≡ 0 → ⊥) → 39 ≤ z → 2 ^ 128 ≤ n * 10 ^ z
many-zeros n z some many =
    let positive : 0 < n = omega (arith, some) in
    let numeral : 2 ^ 128 ≤ 10 ^ 39 = lit≤ tt in
    let more : 10 ^ 39 ≤ 10 ^ z = pow-le-pow_right {n = 10} (omega arith) {i = 39} {j = z} many in
    let each : 10 ^ z ≤ 10 ^ z * n = le-mul_of_pos_right (10 ^ z) positive in
    omega (arith, numeral, more, each)

pub few-zeros : (z : ℕ) → z ≤ 38 → 10 ^ z < 2 ^ 128
few-zeros z few =
    let numeral : 10 ^ 38 < 2 ^ 128 = lit< tt in
    let less : 10 ^ z ≤ 10 ^ 38 = pow-le-pow_right {n = 10} (omega arith) {i = z} {j = 38} few in
    omega (arith, numeral, less)
