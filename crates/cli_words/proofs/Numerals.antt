-- Markers in hexadecimal digits, and numbers in decimal.
use Rattle.std.proofs.Common.{◌≡◌, ◌∙◌, ℕ, ◌<◌, ◌≤◌, ◌^◌, Bool, true, false, List, [], ◌∷◌, decimal, drop, cond, not, refl, sym, ap, subst, arith}
use Rattle.std.specs.Bool.{◌==◌}
use Rattle.std.specs.Char.{digit_value}
use Rattle.std.specs.Str.Parse.{IsNumeral, digits_value, without_leading_plus}
use Rattle.std.proofs.lemmas.Bool.Decides.{nat_tests}
use Rattle.std.proofs.lemmas.Int.Digits.{digits_value-lt}
use Rattle.std.proofs.lemmas.Fmt.{decimal_is_IsNumeral, length-decimal-le}
use Rattle.cli_words.specs.Names.{IsRows}
use Rattle.cli_words.specs.Words.{IsMarker}

-- a plus sign is no digit
no_plus : (digits : List ℕ) → IsNumeral 16 digits → without_leading_plus digits ≡ digits
no_plus [] h = absurd (omega (arith, h.0))
no_plus (c ∷ cs) h = ap (λ b. drop (cond b 1 0) (c ∷ cs)) (from (c == 43) refl)
  where
    from : (b : Bool) → (c == 43) ≡ b → (c == 43) ≡ false
    from false e = e
    from true e =
        let same : c ≡ 43 = grind (arith, nat_tests, e) in
        let low : 36 < 16 = subst (λ z. digit_value z < 16) same h.1.0 in
        absurd (omega (arith, low))

-- the digits of a marker write a number of 128 bits
pub marker_is_number : (digits marker : List ℕ) → IsMarker digits marker → IsNumeral 16 (without_leading_plus digits) × (digits_value 16 (without_leading_plus digits) < 2 ^ 128)
marker_is_number digits marker h =
    let below : digits_value 16 digits < 16 ^ 32 = subst (λ n. digits_value 16 digits < 16 ^ n) h.many (digits_value-lt 16 digits h.numeral.1) in
    subst (λ z. IsNumeral 16 z × (digits_value 16 z < 2 ^ 128)) (sym (no_plus digits h.numeral)) (h.numeral, below)

-- the decimal text of a number is a word of rows, and of no other number
pub decimal_is_rows : (n : ℕ) → n ≤ 18446744073709551615 → IsRows (decimal n) n
decimal_is_rows n most =
    let is = decimal_is_IsNumeral n (omega (arith, most)) in
    (is.0, length-decimal-le 20 n (omega arith) (omega (arith, most)) (omega (arith, most)), most, sym is.1)

-- a word that is read as one number writes no other
pub read_as_one : (word : List ℕ) (read number : ℕ) → IsRows word read → number ≤ 18446744073709551615 → word ≡ decimal number → read ≡ number
read_as_one word read number is most writes =
    is.3 ∙ ap (digits_value 10) writes ∙ sym (decimal_is_rows number most).3

pub not_both : (b : Bool) → true ≡ not b → b ≡ true → ⊥
not_both false differ same = cc
not_both true differ same = cc
