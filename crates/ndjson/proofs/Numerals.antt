-- The decimal numeral of an integer is a JSON number.
use Rattle.std.proofs.Common.{◌≡◌, inl, inr, ℕ, zero, suc, ◌+◌, ◌^◌, ◌<◌, ◌≤◌, ◌==◌, ◌||◌, not, nat_lt, cond, true, false, List, [], ◌∷◌, ◌++◌, length, drop, Some, None, decimal, ℤ, pos, negsuc, neg_ℤ, refl, sym, ap, ◌∙◌, subst, append-nil, arith}
use Rattle.std.proofs.Math.Nat.{pow-le-pow_right}
use Rattle.std.proofs.lemmas.Bool.Decides.{nat_tests}
use Rattle.std.proofs.lemmas.Fmt.{decimal_is_IsNumeral_wide, IsAscii-decimal_wide}
use Rattle.std.proofs.lemmas.Str.{IsUtf8-from_ascii}
use Rattle.std.proofs.lemmas.Bool.{and_from}
use Rattle.std.specs.Char.{is_ascii_digit}
use Rattle.std.specs.Prelude.{position}
use Rattle.std.specs.List.{after_first, before_first, list_all, position_or_len}
use Rattle.std.specs.Str.Parse.{digits_value, starts_with_minus}
use Rattle.std.specs.Fmt.{signed_decimal}
use Rattle.std.specs.Int.RustNames.{FitsSigned}
use mir.Syntax.{Width, w8, w16, w32, w64, w128}
use Rattle.json_tree.specs.Grammar.{Each, is_digit, IsNumber}
use Rattle.json_tree.specs.Tree.{has_point}
use Rattle.json_tree.specs.declared.value.Number.TheVariants.{Integer as NumberInteger}
use Rattle.json_tree.proofs.Numerals.{IsNumeralOf, decimal_is_numeral, is_integer}
use Rattle.json_flat.specs.Whole.{are_digits, fraction_part, integer_part, is_int, is_mantissa, is_point, number_value, scaled, signed, whole_value, without_minus}
use Rattle.json_flat.proofs.Signs.{well-formed}
use Rattle.json_flat.proofs.Splitting.{an-integer, no-point}
use Rattle.ndjson.specs.Values.{whole}
use Rattle.ndjson_read.specs.Lines.{is_line_feed}
use Rattle.ndjson.proofs.Clean.{Clean, Feedless, clean-after}
use Rattle.ndjson.proofs.Written.{Good, of_scalar}

-- ---- integers whose numerals are short enough

abbrev pub IsSmall : ℤ → Type 0
IsSmall (pos n) = n < 10 ^ 64
IsSmall (negsuc n) = suc n < 10 ^ 64

pub small-signed : (w : Width) (n : ℤ) → FitsSigned w n → IsSmall n
small-signed w8 (pos n) h = omega (arith, h.sfits)
small-signed w8 (negsuc n) h = omega (arith, h.sfits)
small-signed w16 (pos n) h = omega (arith, h.sfits)
small-signed w16 (negsuc n) h = omega (arith, h.sfits)
small-signed w32 (pos n) h = omega (arith, h.sfits)
small-signed w32 (negsuc n) h = omega (arith, h.sfits)
small-signed w64 (pos n) h = omega (arith, h.sfits)
small-signed w64 (negsuc n) h = omega (arith, h.sfits)
small-signed w128 (pos n) h = omega (arith, h.sfits)
small-signed w128 (negsuc n) h = omega (arith, h.sfits)

pub small-unsigned : (bits n : ℕ) → bits ≤ 64 → n < 2 ^ bits → n < 10 ^ 64
small-unsigned bits n l h = omega (arith, h, pow-le-pow_right {n = 2} (omega arith) {i = bits} {j = 64} l)

is-number : (n : ℤ) → IsSmall n → IsNumber (signed_decimal n) [] (signed_decimal n)
is-number (pos n) l =
    ([], decimal n, [], [], inl refl, is_integer n (decimal n) (decimal_is_numeral n l), inl refl, inl (refl, refl), sym (append-nil (decimal n)), sym (append-nil (decimal n)))
is-number (negsuc n) l =
    (0x2d ∷ [], decimal (suc n), [], [], inr refl, is_integer (suc n) (decimal (suc n)) (decimal_is_numeral (suc n) l), inl refl, inl (refl, refl), ap (λ ds. 0x2d ∷ ds) (sym (append-nil (decimal (suc n)))), sym (append-nil (0x2d ∷ decimal (suc n))))

-- ---- on one line

digit-feedless : (d : ℕ) → is_digit d ≡ true → is_line_feed d ≡ false
unfolding is_digit
digit-feedless d e = grind (arith, nat_tests, e)

digits-feedless : (ds : List ℕ) → Each is_digit ds → Feedless ds
digits-feedless [] h = tt
digits-feedless (d ∷ ds) h = (digit-feedless d h.0, digits-feedless ds h.1)

numeral-feedless : (n : ℕ) (ds : List ℕ) → IsNumeralOf n ds → Feedless ds
numeral-feedless n ds (inl h) = subst Feedless (sym h.1) (refl, tt)
numeral-feedless n ds (inr h) = subst Feedless (sym h.5) (digits-feedless (h.0 ∷ h.1) (h.2, h.4))

decimal-clean : (n : ℕ) → n < 10 ^ 64 → Clean (decimal n)
decimal-clean n l = record { utf8 = IsUtf8-from_ascii (decimal n) (IsAscii-decimal_wide n l); one_line = numeral-feedless n (decimal n) (decimal_is_numeral n l) }

numeral-clean : (n : ℤ) → IsSmall n → Clean (signed_decimal n)
numeral-clean (pos n) l = decimal-clean n l
numeral-clean (negsuc n) l = clean-after 0x2d (decimal (suc n)) (omega arith) refl (decimal-clean (suc n) l)

pub number-good : (d : ℕ) (n : ℤ) → IsSmall n → Good d (whole n) (signed_decimal n)
number-good d n l = (numeral-clean n l, of_scalar d (whole n) (signed_decimal n) (inr (inr (inr (inr (signed_decimal n, [], is-number n l, refl))))))

-- ---- what the numeral of an integer comes to

digit-isnt_point : (d : ℕ) → is_digit d ≡ true → (d == 0x2e) ≡ false
unfolding is_digit
digit-isnt_point d e = grind (arith, nat_tests, e)

digit-isnt_minus : (d : ℕ) → is_digit d ≡ true → (d == 0x2d) ≡ false
unfolding is_digit
digit-isnt_minus d e = grind (arith, nat_tests, e)

digits-reach : (ds : List ℕ) → Each is_digit ds → position_or_len is_point ds ≡ length ds
digits-reach [] h = refl
digits-reach (d ∷ ds) h = rw (digit-isnt_point d h.0) (omega (arith, digits-reach ds h.1))

digits-no_point : (ds : List ℕ) → Each is_digit ds → position is_point ds ≡ None
digits-no_point ds h =
    let far = digits-reach ds h in
    let end : nat_lt (length ds) (length ds) ≡ false = grind (arith, nat_tests) in
    ap (λ k. cond (nat_lt k (length ds)) (Some k) None) far ∙ ap (λ b. cond b (Some (length ds)) None) end

all-digits : (ds : List ℕ) → Each is_digit ds → list_all is_ascii_digit ds ≡ true
unfolding is_digit
all-digits [] h = refl
all-digits (d ∷ ds) h = rw h.0 (all-digits ds h.1)

-- digits with no zero before them are an integer without a sign
record IsPlainInteger (ds : List ℕ) : Type 0 where
  int : is_int ds ≡ true
  no_minus : starts_with_minus ds ≡ false
  no_point : (has_point ds ≡ false) × (after_first is_point ds ≡ []) × (before_first is_point ds ≡ ds)

plain-integer : (n : ℕ) (ds : List ℕ) → IsNumeralOf n ds → IsPlainInteger ds
plain-integer n ds (inl h) = subst IsPlainInteger (sym h.1) (record { int = refl; no_minus = refl; no_point = (refl, refl, refl) })
plain-integer n ds (inr h) =
    let zero_free : (not (h.0 == 0x30) || (length (h.0 ∷ h.1) == 1)) ≡ true = ap (λ b. not b || (length (h.0 ∷ h.1) == 1)) h.3 in
    let some : not (length (h.0 ∷ h.1) == 0) ≡ true = grind (arith, nat_tests) in
    let digits : are_digits (h.0 ∷ h.1) ≡ true = and_from _ _ some (all-digits (h.0 ∷ h.1) (h.2, h.4)) in
    subst IsPlainInteger (sym h.5)
    (record { int = and_from _ _ digits zero_free; no_minus = digit-isnt_minus h.0 h.2; no_point = no-point (h.0 ∷ h.1) (digits-no_point (h.0 ∷ h.1) (h.2, h.4)) })

-- without a fraction and an exponent the whole value is what the digits write
scaled-digits : (ds : List ℕ) (n : ℕ) → digits_value 10 ds ≡ n → scaled ds [] false 0 ≡ n
scaled-digits ds n e =
    let all : digits_value 10 (ds ++ []) ≡ n = ap (digits_value 10) (append-nil ds) ∙ e in
    omega (arith, all)

module _ (n : ℕ) (l : n < 10 ^ 64) where
  plain : IsPlainInteger (decimal n)
  plain = plain-integer n (decimal n) (decimal_is_numeral n l)

  valued : digits_value 10 (decimal n) ≡ n
  valued = (decimal_is_IsNumeral_wide n l).1

  -- the value of a mantissa with these digits
  magnitude : (m : List ℕ) → without_minus m ≡ decimal n → scaled (integer_part m) (fraction_part m) false 0 ≡ n
  magnitude m e =
      ap (λ u. scaled (before_first is_point u) (after_first is_point u) false 0) e
      ∙ ap (λ i. scaled i (after_first is_point (decimal n)) false 0) plain.no_point.2
      ∙ ap (λ f. scaled (decimal n) f false 0) plain.no_point.1
      ∙ scaled-digits (decimal n) n valued

  mantissa : (m : List ℕ) → without_minus m ≡ decimal n → is_mantissa m ≡ true
  mantissa m e = an-integer m (decimal n) (decimal n) (sym e) (sym plain.no_point.2) plain.int plain.no_point.0

unsigned : (n : ℕ) (l : n < 10 ^ 64) → without_minus (decimal n) ≡ decimal n
unsigned n l = ap (λ b. cond b (drop 1 (decimal n)) (decimal n)) (plain n l).no_minus

pub numeral-no_point : (n : ℤ) → IsSmall n → has_point (signed_decimal n) ≡ false
numeral-no_point (pos n) l = (plain n l).no_point.0
numeral-no_point (negsuc n) l = (plain (suc n) l).no_point.0

numeral-whole : (n : ℤ) → IsSmall n → whole_value (signed_decimal n) [] ≡ Some n
numeral-whole (pos n) l =
    well-formed (decimal n) [] (mantissa n l (decimal n) (unsigned n l)) refl
    ∙ ap (λ b. Some (signed b (scaled (integer_part (decimal n)) (fraction_part (decimal n)) false 0))) (plain n l).no_minus
    ∙ ap (λ k. Some (pos k)) (magnitude n l (decimal n) (unsigned n l))
numeral-whole (negsuc n) l =
    well-formed (0x2d ∷ decimal (suc n)) [] (mantissa (suc n) l (0x2d ∷ decimal (suc n)) refl) refl
    ∙ ap (λ k. Some (neg_ℤ (pos k))) (magnitude (suc n) l (0x2d ∷ decimal (suc n)) refl)

pub numeral-value : (n : ℤ) → IsSmall n → number_value (NumberInteger (signed_decimal n) []) ≡ Some n
numeral-value n l = ap (λ b. cond b None (whole_value (signed_decimal n) [])) (numeral-no_point n l) ∙ numeral-whole n l
