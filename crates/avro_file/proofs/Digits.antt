-- A numeral of digits alone, as a test.
use Rattle.std.proofs.Common.{◌≡◌, ℕ, ◌<◌, ◌≤◌, Bool, true, false, ◌&&◌, nat_lt, nat_le, cond, List, [], ◌∷◌, length, Option, Some, None, IfSome, refl, sym, ap, subst, arith}
use Rattle.std.proofs.lemmas.Bool.Decides.{nat_tests}
use Rattle.std.specs.List.{list_all}
use Rattle.std.specs.Char.{is_digit, digit_value}
use Rattle.std.specs.Str.Parse.{AllDigits, IsNumeral, digits_value}
use Rattle.avro_file.specs.Attributes.{digits_count}

abbrev are_digits : List ℕ → Bool
are_digits = list_all (λ byte. is_digit byte 10)

pub parts : (a b : Bool) → (a && b) ≡ true → (a ≡ true) × (b ≡ true)
parts true b e = (refl, e)
parts false b e = absurd (cc)

digits-all : (ds : List ℕ) → are_digits ds ≡ true → AllDigits 10 ds
digits-all [] e = tt
digits-all (d ∷ ds) e = let p = parts (nat_lt (digit_value d) 10) (are_digits ds) e in (below (digit_value d) p.0, digits-all ds p.1)
  where
    below : (n : ℕ) → nat_lt n 10 ≡ true → n < 10
    below n h = grind (arith, nat_tests, h)

all-digits : (ds : List ℕ) → AllDigits 10 ds → are_digits ds ≡ true
all-digits [] h = refl
all-digits (d ∷ ds) h = rw (test (digit_value d) h.0) (all-digits ds h.1)
  where
    test : (n : ℕ) → n < 10 → nat_lt n 10 ≡ true
    test n l = grind (arith, nat_tests, l)

abbrev test : List ℕ → Bool
test ds = nat_lt 0 (length ds) && (are_digits ds && nat_le (digits_value 10 ds) 2147483647)

pub le_true : (m n : ℕ) → m ≤ n → nat_le m n ≡ true
le_true m n l = grind (arith, nat_tests, l)

lt_true : (m n : ℕ) → m < n → nat_lt m n ≡ true
lt_true m n l = grind (arith, nat_tests, l)

pub true_le : (m n : ℕ) → nat_le m n ≡ true → m ≤ n
true_le m n l = grind (arith, nat_tests, l)

true_lt : (m n : ℕ) → nat_lt m n ≡ true → m < n
true_lt m n l = grind (arith, nat_tests, l)

passes : (ds : List ℕ) → IsNumeral 10 ds → digits_value 10 ds ≤ 2147483647 → test ds ≡ true
passes ds n l = rw (lt_true 0 (length ds) n.0, all-digits ds n.1, le_true (digits_value 10 ds) 2147483647 l) refl

pub read_is : (ds : List ℕ) (r : Option ℕ) → IfSome r (λ count. IsNumeral 10 ds × (count ≡ digits_value 10 ds) × (count ≤ 2147483647)) →
    (r ≡ None → IsNumeral 10 ds → digits_value 10 ds ≤ 2147483647 → ⊥) → r ≡ digits_count ds []
read_is ds (Some n) h isnt = rw (passes ds h.0 (subst (λ m. m ≤ 2147483647) h.1 h.2)) (ap (λ m. Some m) h.1)
read_is ds None h isnt = go (test ds) refl
  where
    go : (b : Bool) → test ds ≡ b → ◌≡◌ {A = Option ℕ} None (cond b (Some (digits_value 10 ds)) None)
    go false e = refl
    go true e =
        let p = parts (nat_lt 0 (length ds)) (are_digits ds && nat_le (digits_value 10 ds) 2147483647) e in
        let q = parts (are_digits ds) (nat_le (digits_value 10 ds) 2147483647) p.1 in
        absurd (isnt refl (true_lt 0 (length ds) p.0, digits-all ds q.0) (true_le (digits_value 10 ds) 2147483647 q.1))

-- a numeral counts its number
pub count_is_digits : (ds : List ℕ) (n : ℕ) → IsNumeral 10 ds → digits_value 10 ds ≡ n → n ≤ 2147483647 → digits_count ds [] ≡ Some n
count_is_digits ds n h e l = rw (passes ds h (subst (λ m. m ≤ 2147483647) (sym e) l)) (ap (λ m. Some m) e)

pub empty : (es : List ℕ) → length es ≡ 0 → es ≡ []
empty [] e = refl
empty (x ∷ xs) e = absurd (omega (arith, e))
