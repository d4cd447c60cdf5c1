-- What is a number in a JSON text (RFC 8259, section 6) has a whole value.
use Rattle.std.proofs.Common.{◌≡◌, ◌∙◌, inl, inr, ℕ, suc, ◌+◌, ◌==◌, ◌||◌, Bool, true, false, not, cond, List, [], ◌∷◌, ◌++◌, length, take, drop, refl, sym, ap, arith}
use Rattle.std.proofs.lemmas.Bool.{and_from}
use Rattle.std.proofs.lemmas.Bool.Decides.{nat_tests}
use Rattle.std.proofs.lemmas.List.{append-nil}
use Rattle.std.proofs.Math.Seq.{drop-append-add, take-append_seam, take-length}
use Rattle.std.specs.Char.{is_ascii_digit}
use Rattle.std.specs.List.{after_first, before_first, list_all, position_or_len}
use Rattle.std.specs.Prelude.{ℤ, Some, None}
use Rattle.std.specs.Str.Parse.{without_leading_sign}
use Rattle.json_tree.specs.Grammar.{Digits, Each, is_digit, IsExponent, IsFraction, IsInteger, IsMinus, IsNumber, IsSign}
use Rattle.json_tree.specs.Tree.{has_point, number}
use Rattle.json_tree.specs.declared.value.Number.{Number}
use Rattle.json_tree.specs.declared.value.Number.TheVariants.{Integer, Float}
use Rattle.json_tree.specs.declared.value.Object.{Object}
use Rattle.json_tree.specs.declared.value.Value.{Value, Value-F, out-Value}
use Rattle.json_tree.specs.declared.value.Value.TheVariants as variant
use Rattle.json_tree.specs.declared.value.Value.TheOpen as layer
use Rattle.json_tree.proofs.Points.{int-point}
use Rattle.json_flat.specs.Whole.{are_digits, is_exponent, is_int, is_mantissa, is_point, is_unsigned, number_value, whole_of, whole_value, without_minus}
use Rattle.json_flat.proofs.Splitting.{or-second, without}

-- ---- digits

ascii : (x : ℕ) → is_digit x ≡ true → is_ascii_digit x ≡ true
unfolding is_digit
ascii x h = h

digit-minus : (x : ℕ) → is_digit x ≡ true → (x == 45) ≡ false
unfolding is_digit
digit-minus x h = grind (arith, nat_tests, h)

digit-plus : (x : ℕ) → is_digit x ≡ true → (x == 43) ≡ false
unfolding is_digit
digit-plus x h = grind (arith, nat_tests, h)

each-digit : (ds : List ℕ) → Each is_digit ds → list_all is_ascii_digit ds ≡ true
each-digit [] h = refl
each-digit (x ∷ ds) h = and_from (is_ascii_digit x) (list_all is_ascii_digit ds) (ascii x h.0) (each-digit ds h.1)

not-none : (n : ℕ) → not (suc n == 0) ≡ true
not-none n = grind (arith, nat_tests)

some-digits : (x : ℕ) (ds : List ℕ) → is_digit x ≡ true → Each is_digit ds → are_digits (x ∷ ds) ≡ true
some-digits x ds h k = and_from (not (length (x ∷ ds) == 0)) (list_all is_ascii_digit (x ∷ ds)) (not-none (length ds)) (each-digit (x ∷ ds) (h, k))

digits-are : (ds : List ℕ) → Digits ds → are_digits ds ≡ true
digits-are ds d = ap are_digits d.4 ∙ some-digits d.0 d.1 d.2 d.3

-- ---- an exponent

signless : (x : ℕ) (ds : List ℕ) → is_digit x ≡ true → without_leading_sign (x ∷ ds) ≡ x ∷ ds
signless x ds h =
    ap (λ b. cond b ds (drop (cond (x == 43) 1 0) (x ∷ ds))) (digit-minus x h) ∙ ap (λ b. drop (cond b 1 0) (x ∷ ds)) (digit-plus x h)

signed-digits : (sign ds : List ℕ) → IsSign sign → Digits ds → are_digits (without_leading_sign (sign ++ ds)) ≡ true
signed-digits sign ds (inl e) d =
    ap (λ s. are_digits (without_leading_sign (s ++ ds))) e ∙ ap (λ b. are_digits (without_leading_sign b)) d.4 ∙ ap are_digits (signless d.0 d.1 d.2) ∙ some-digits d.0 d.1 d.2 d.3
signed-digits sign ds (inr (inl e)) d = ap (λ s. are_digits (without_leading_sign (s ++ ds))) e ∙ digits-are ds d
signed-digits sign ds (inr (inr e)) d = ap (λ s. are_digits (without_leading_sign (s ++ ds))) e ∙ digits-are ds d

or-true : (a b : Bool) → b ≡ true → (a || b) ≡ true
or-true true b h = refl
or-true false b h = h

exponent-is : (marked exponent : List ℕ) → IsExponent marked exponent → is_exponent exponent ≡ true
exponent-is marked exponent (inl h) = ap is_exponent h.1
exponent-is marked exponent (inr h) =
    or-true (length exponent == 0) (are_digits (without_leading_sign exponent)) (ap (λ b. are_digits (without_leading_sign b)) h.6 ∙ signed-digits h.1 h.2 h.4 h.5)

-- ---- a mantissa

int-is : (i : List ℕ) → IsInteger i → is_int i ≡ true
int-is i (inl e) = ap is_int e
int-is i (inr h) =
    ap is_int h.5
    ∙ and_from (are_digits (h.0 ∷ h.1)) (not (h.0 == 0x30) || (length (h.0 ∷ h.1) == 1)) (some-digits h.0 h.1 h.2 h.4) (without (h.0 == 0x30) (length (h.0 ∷ h.1) == 1) h.3)

no-minus : (i w : List ℕ) → IsInteger i → without_minus (i ++ w) ≡ i ++ w
no-minus i w (inl e) = ap (λ k. without_minus (k ++ w)) e ∙ sym (ap (λ k. k ++ w) e)
no-minus i w (inr h) =
    ap (λ k. without_minus (k ++ w)) h.5 ∙ ap (λ b. cond b (h.1 ++ w) (h.0 ∷ (h.1 ++ w))) (digit-minus h.0 h.2) ∙ sym (ap (λ k. k ++ w) h.5)

behind-minus : (m i w : List ℕ) → IsMinus m → IsInteger i → without_minus (m ++ (i ++ w)) ≡ i ++ w
behind-minus m i w (inl e) h = ap (λ k. without_minus (k ++ (i ++ w))) e ∙ no-minus i w h
behind-minus m i w (inr e) h = ap (λ k. without_minus (k ++ (i ++ w))) e

or-none : (u v : Bool) → (u || v) ≡ false → (u ≡ false) × (v ≡ false)
or-none true v h = grind (arith, h)
or-none false v h = (refl, h)

-- the first point stands behind what has none
first-point : (i w : List ℕ) → has_point i ≡ false → position_or_len is_point (i ++ 46 ∷ w) ≡ length i
first-point [] w h = refl
first-point (x ∷ i) w h =
    let p = or-none (x == 46) (has_point i) h in
    let again = first-point i w p.1 in
    ap (λ b. cond (not b) (1 + position_or_len is_point (i ++ 46 ∷ w)) 0) p.0 ∙ omega (arith, again)

nowhere : (i : List ℕ) → has_point i ≡ false → position_or_len is_point i ≡ length i
nowhere [] h = refl
nowhere (x ∷ i) h =
    let p = or-none (x == 46) (has_point i) h in
    let again = nowhere i p.1 in
    ap (λ b. cond (not b) (1 + position_or_len is_point i) 0) p.0 ∙ omega (arith, again)

before-point : (i w : List ℕ) → has_point i ≡ false → before_first is_point (i ++ 46 ∷ w) ≡ i
before-point i w h = ap (λ n. take n (i ++ 46 ∷ w)) (first-point i w h) ∙ take-append_seam i (46 ∷ w)

after-point : (i w : List ℕ) → has_point i ≡ false → after_first is_point (i ++ 46 ∷ w) ≡ w
after-point i w h = ap (λ n. drop (n + 1) (i ++ 46 ∷ w)) (first-point i w h) ∙ drop-append-add i (46 ∷ w) 1

unsigned-is : (i f : List ℕ) → IsInteger i → IsFraction f → is_unsigned (i ++ f) ≡ true
unsigned-is i f h (inl e) =
    let none = int-point i h in
    let whole : before_first is_point i ≡ i = ap (λ n. take n i) (nowhere i none) ∙ take-length i in
    ap (λ k. is_unsigned (i ++ k)) e ∙ ap is_unsigned (append-nil i)
    ∙ and_from (is_int (before_first is_point i)) (not (has_point i) || are_digits (after_first is_point i)) (ap is_int whole ∙ int-is i h) (without (has_point i) (are_digits (after_first is_point i)) none)
unsigned-is i f h (inr k) =
    let none = int-point i h in
    let u : List ℕ = i ++ 46 ∷ k.0 in
    ap (λ w. is_unsigned (i ++ w)) k.2
    ∙ and_from (is_int (before_first is_point u)) (not (has_point u) || are_digits (after_first is_point u)) (ap is_int (before-point i k.0 none) ∙ int-is i h)
    (or-second (has_point u) (are_digits (after_first is_point u)) (ap are_digits (after-point i k.0 none) ∙ digits-are k.0 k.1))

mantissa-is : (minus i f mantissa : List ℕ) → IsMinus minus → IsInteger i → IsFraction f → mantissa ≡ minus ++ (i ++ f) → is_mantissa mantissa ≡ true
mantissa-is minus i f mantissa hm hi hf e = ap is_mantissa e ∙ ap is_unsigned (behind-minus minus i f hm hi) ∙ unsigned-is i f hi hf

-- ---- a number

whole-told : (mantissa exponent bytes : List ℕ) → IsNumber mantissa exponent bytes → whole_value mantissa exponent ≡ Some (whole_of mantissa exponent)
whole-told mantissa exponent bytes n =
    ap (λ b. cond b (Some (whole_of mantissa exponent)) None)
    (and_from (is_mantissa mantissa) (is_exponent exponent) (mantissa-is n.0 n.1 n.2 mantissa n.4 n.5 n.6 n.8) (exponent-is n.3 exponent n.7))

abbrev number_in : Value-F Value Object → Number
number_in (layer.Number n) = n
number_in _ = Integer [] []

same-number : (n other : Number) → variant.Number n ≡ variant.Number other → n ≡ other
same-number n other e = ap number_in (sym (variant.outs-Number n) ∙ (ap out-Value e ∙ variant.outs-Number other))

by-point : (mantissa exponent : List ℕ) (b : Bool) → has_point mantissa ≡ b → number_value (cond b (Float mantissa exponent) (Integer mantissa exponent)) ≡ whole_value mantissa exponent
by-point mantissa exponent true h = ap (λ b. cond b (whole_value mantissa exponent) None) h
by-point mantissa exponent false h = ap (λ b. cond b None (whole_value mantissa exponent)) h

pub has-value : (mantissa exponent bytes : List ℕ) (n : Number) → IsNumber mantissa exponent bytes → number mantissa exponent ≡ variant.Number n → (whole : ℤ) × (number_value n ≡ Some whole)
has-value mantissa exponent bytes n h e =
    let told : Number = cond (has_point mantissa) (Float mantissa exponent) (Integer mantissa exponent) in (
      whole_of mantissa exponent,
      ap number_value (sym (same-number told n e)) ∙ (by-point mantissa exponent (has_point mantissa) refl ∙ whole-told mantissa exponent bytes h),
    )
