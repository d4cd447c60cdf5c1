-- Mantissas without a point.
use Rattle.std.proofs.Common.{◌≡◌, ◌∙◌, ℕ, zero, suc, ◌+◌, ◌*◌, ◌<◌, ◌≤◌, Bool, true, false, cond, eqb, List, [], ◌∷◌, length, get_or, take, refl, sym, ap, subst, arith, slice_index}
use Rattle.std.specs.Prelude.{nat_lt, not, ◌&&◌, ◌||◌, ◌/◌, position, Some, None}
use Rattle.std.specs.Char.{is_ascii_digit}
use Rattle.std.specs.List.{list_all, before_first, after_first, position_or_len}
use Rattle.std.specs.Str.Parse.{digits_value, starts_with_minus}
use Rattle.std.proofs.Math.Nat.{div-one, mul-one}
use Rattle.std.proofs.lemmas.Bool.{and_parts, and_from, leb-true, true≢false}
use Rattle.json_tree.proofs.Turns.{ne-eqb}
use Rattle.std.proofs.lemmas.Bool.Decides.{nat_tests}
use Rattle.std.proofs.lemmas.List.{append-nil, take_more}
use Rattle.std.proofs.lemmas.List.Folds.{list_all-append}
use Rattle.json_flat.specs.Whole.{is_int, is_mantissa, is_point, scaled, signed, whole_of, whole_value, without_minus}
use Rattle.json_flat.proofs.Splitting.{an-integer, no-point}

-- a digit more
pub more-digits : (ds : List ℕ) (i : ℕ) → i < length ds → list_all is_ascii_digit (take i ds) ≡ true → is_ascii_digit (get_or ds i 0) ≡ true → list_all is_ascii_digit (take (i + 1) ds) ≡ true
more-digits ds i lt h d =
    ap (list_all is_ascii_digit) (take_more ds i 0 lt) ∙ list_all-append is_ascii_digit (take i ds) (get_or ds i 0 ∷ [])
    ∙ and_from _ _ h (and_from _ _ d refl)

take-whole : (xs : List ℕ) (n : ℕ) → length xs ≤ n → take n xs ≡ xs
take-whole [] zero h = refl
take-whole [] (suc n) h = refl
take-whole (x ∷ xs) zero h = absurd (omega (arith, h))
take-whole (x ∷ xs) (suc n) h = ap (λ ys. x ∷ ys) (take-whole xs n (omega (arith, h)))

pub all-digits : (ds : List ℕ) (i : ℕ) → length ds ≤ i → list_all is_ascii_digit (take i ds) ≡ true → list_all is_ascii_digit ds ≡ true
all-digits ds i le h = subst (λ xs. list_all is_ascii_digit xs ≡ true) (take-whole ds i le) h

pub same-number : (ds : List ℕ) (i n : ℕ) → length ds ≤ i → n ≡ digits_value 10 (take i ds) → n ≡ digits_value 10 ds
same-number ds i n le e = e ∙ ap (digits_value 10) (take-whole ds i le)

-- no digit is a point
not-point : (x : ℕ) → is_ascii_digit x ≡ true → is_point x ≡ false
not-point x h =
    let p = and_parts _ _ h in
    let low = leb-true 48 x p.0 in
    ne-eqb x 46 (λ e. absurd (omega (arith, low, e)))

digits-first : (ds : List ℕ) → list_all is_ascii_digit ds ≡ true → position_or_len is_point ds ≡ length ds
digits-first [] h = refl
digits-first (x ∷ ds) h =
    let p = and_parts _ _ h in
    let rest = digits-first ds p.1 in
    let last : 1 + position_or_len is_point ds ≡ suc (length ds) = omega (arith, rest) in
    ap (λ b. cond (not b) (1 + position_or_len is_point ds) 0) (not-point x p.0) ∙ last

position-none : (n k : ℕ) → k ≡ n → cond (nat_lt k n) (Some k) None ≡ None
position-none n k e = at (nat_lt k n) refl
  where
    at : (b : Bool) → nat_lt k n ≡ b → cond b (Some k) None ≡ None
    at false q = refl
    at true q = let h : k < n = grind (arith, nat_tests, q) in absurd (omega (arith, e, h))

no-point-in : (ds : List ℕ) → list_all is_ascii_digit ds ≡ true → position is_point ds ≡ None
no-point-in ds h = position-none (length ds) (position_or_len is_point ds) (digits-first ds h)

one-part : (n : ℕ) → n * 1 / 1 ≡ n
one-part n = div-one (n * 1) ∙ mul-one n

-- the value of digits behind a minus or not
pub digits-whole : (m u : List ℕ) (n : ℕ) → u ≡ without_minus m → is_int u ≡ true → n ≡ digits_value 10 u → whole_value m [] ≡ Some (signed (starts_with_minus m) n)
digits-whole m u n eu h e =
    let digits : list_all is_ascii_digit u ≡ true = (and_parts _ _ (and_parts _ _ h).0).1 in
    let none = no-point u (no-point-in u digits) in
    let good : is_mantissa m ≡ true = an-integer m u u eu (sym none.2) h none.0 in
    let before : before_first is_point (without_minus m) ≡ u = ap (before_first is_point) (sym eu) ∙ none.2 in
    let after : after_first is_point (without_minus m) ≡ [] = ap (after_first is_point) (sym eu) ∙ none.1 in
    let value : scaled (before_first is_point (without_minus m)) (after_first is_point (without_minus m)) false 0 ≡ n =
    (λ i. scaled (before i) (after i) false 0) ∙ ap (λ xs. digits_value 10 xs * 1 / 1) (append-nil u) ∙ one-part (digits_value 10 u) ∙ sym e in
    ap (λ b. cond (b && true) (Some (whole_of m [])) None) good ∙ ap (λ k. Some (signed (starts_with_minus m) k)) value

-- digits, of which the first is 0 only where it stands alone
pub an-int : (ds : List ℕ) (e u : Bool) → e ≡ false → e ≡ eqb (length ds) 0 → u ≡ true → u ≡ (not (eqb (slice_index ds 0) 48) || eqb (length ds) 1) → list_all is_ascii_digit ds ≡ true → is_int ds ≡ true
an-int ds e u p q r v h = and_from _ _ (and_from _ _ (ap not (sym q ∙ p)) h) (sym v ∙ r)

-- no bytes at all
pub is-empty : (xs : List ℕ) (t : Bool) → t ≡ true → t ≡ eqb (length xs) 0 → xs ≡ []
is-empty [] t p q = refl
is-empty (x ∷ xs) t p q = absurd (true≢false (sym p ∙ (q ∙ ne-eqb (length (x ∷ xs)) 0 (λ k. absurd (omega (arith, k))))))
