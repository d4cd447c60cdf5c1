-- A mantissa at its point.
use Rattle.std.proofs.Common.{◌≡◌, ℕ, suc, ◌+◌, ◌<◌, ◌≤◌, Bool, true, false, cond, List, [], ◌∷◌, length, take, drop, refl, sym, ap, ◌∙◌, subst, arith}
use Rattle.std.proofs.lemmas.Bool.{true≢false, and_from}
use Rattle.std.proofs.lemmas.Bool.Decides.{nat_tests}
use Rattle.std.proofs.lemmas.Grind.{common_steps}
use Rattle.std.specs.List.{position_or_len, before_first, after_first}
use Rattle.std.specs.Prelude.{Some, None, not, ◌||◌, ◌==◌, nat_lt, position}
use Rattle.std.specs.List.{list_any}
use Rattle.std.specs.Str.Parse.{starts_with_minus, AllDigits}
use Rattle.json_flat.specs.Parts.{IsFraction, IsMantissaOf}
use Rattle.json_flat.specs.declared.mantissa.Mantissa.{Mantissa}
use Rattle.json_flat.proofs.Digits.{digits-of, digits-of-int}
use Rattle.json_tree.specs.Tree.{has_point}
use Rattle.json_flat.specs.Whole.{is_point, is_int, are_digits, is_mantissa, without_minus}

-- there is a point where the first one has an index
has-point : (bs : List ℕ) → has_point bs ≡ nat_lt (position_or_len is_point bs) (length bs)
has-point [] = refl
has-point (x ∷ bs) = at (x == 46) (has-point bs)
  where
    at : (v : Bool) → has_point bs ≡ nat_lt (position_or_len is_point bs) (length bs) → (v || has_point bs) ≡ nat_lt (cond (not v) (1 + position_or_len is_point bs) 0) (suc (length bs))
    at true h = grind (arith, nat_tests)
    at false h = h ∙ grind (arith, nat_tests)

none-at : (n k : ℕ) (b : Bool) → nat_lt k n ≡ b → cond b (Some k) None ≡ None → n ≤ k
none-at n k true e h = absurd cc
none-at n k false e h = grind (arith, nat_tests, e)

some-at : (n k i : ℕ) (b : Bool) → nat_lt k n ≡ b → cond b (Some k) None ≡ Some i → (k < n) × (k ≡ i)
some-at n k i true e h = (grind (arith, nat_tests, e), cc)
some-at n k i false e h = absurd cc

pub no-point : (bs : List ℕ) → position is_point bs ≡ None → (has_point bs ≡ false) × (after_first is_point bs ≡ []) × (before_first is_point bs ≡ bs)
no-point bs h =
    let p = position_or_len is_point bs in
    let far = none-at (length bs) p (nat_lt p (length bs)) refl h in
    (has-point bs ∙ grind (arith, nat_tests, far), grind (arith, common_steps, far), grind (arith, common_steps, far))

pub a-point : (bs : List ℕ) (i : ℕ) → position is_point bs ≡ Some i → (has_point bs ≡ true) × (drop (i + 1) bs ≡ after_first is_point bs) × (take i bs ≡ before_first is_point bs) × (i < length bs)
a-point bs i h =
    let p = position_or_len is_point bs in
    let near = some-at (length bs) p i (nat_lt p (length bs)) refl h in
    (has-point bs ∙ grind (arith, nat_tests, near.0), ap (λ k. drop (k + 1) bs) (sym near.1), ap (λ k. take k bs) (sym near.1), subst (λ k. k < length bs) near.1 near.0)

either : (p d : Bool) → p ≡ true → d ≡ false → (not p || d) ≡ false
either true d e f = f
either false d e f = sym e

pub without : (p d : Bool) → p ≡ false → (not p || d) ≡ true
without true d e = absurd (true≢false e)
without false d e = refl

pub an-integer : (bytes u i : List ℕ) → u ≡ without_minus bytes → i ≡ before_first is_point u → is_int i ≡ true → has_point u ≡ false → is_mantissa bytes ≡ true
an-integer bytes u i eu ei h hp =
    and_from _ _ (subst (λ k. is_int (before_first is_point k) ≡ true) eu (subst (λ k. is_int k ≡ true) ei h)) (without _ _ (subst (λ k. has_point k ≡ false) eu hp))

pub or-second : (p d : Bool) → d ≡ true → (not p || d) ≡ true
or-second true d e = e
or-second false d e = refl

pub a-float : (bytes u i f : List ℕ) → u ≡ without_minus bytes → i ≡ before_first is_point u → is_int i ≡ true → f ≡ after_first is_point u → are_digits f ≡ true → is_mantissa bytes ≡ true
a-float bytes u i f eu ei h ef k =
    and_from _ _ (subst (λ k. is_int (before_first is_point k) ≡ true) eu (subst (λ k. is_int k ≡ true) ei h)) (or-second _ _ (subst (λ k. are_digits (after_first is_point k) ≡ true) eu (subst (λ k. are_digits k ≡ true) ef k)))

pub integer-parts : (bytes : List ℕ) (m : Mantissa) (u : List ℕ) → u ≡ without_minus bytes → m.negative ≡ starts_with_minus bytes → m.integer.now ≡ before_first is_point u → is_int m.integer.now ≡ true → IsFraction u None → m.fraction.now ≡ [] → IsMantissaOf bytes m
integer-parts bytes m u eu en ei h hp ef = record {
  well_formed = an-integer bytes u m.integer.now eu ei h hp.0;
  negative = en;
  integer = ei ∙ ap (before_first is_point) eu;
  fraction = ef ∙ sym hp.1 ∙ ap (after_first is_point) eu;
  integer_digits = digits-of-int m.integer.now h;
  fraction_digits = subst (AllDigits 10) (sym ef) tt;
}

pub float-parts : (bytes : List ℕ) (m : Mantissa) (u f : List ℕ) → u ≡ without_minus bytes → m.negative ≡ starts_with_minus bytes → m.integer.now ≡ before_first is_point u → is_int m.integer.now ≡ true → IsFraction u (Some f) → are_digits f ≡ true → m.fraction.now ≡ f → IsMantissaOf bytes m
float-parts bytes m u f eu en ei h hp hf ef = record {
  well_formed = a-float bytes u m.integer.now f eu ei h hp.1 hf;
  negative = en;
  integer = ei ∙ ap (before_first is_point) eu;
  fraction = ef ∙ hp.1 ∙ ap (after_first is_point) eu;
  integer_digits = digits-of-int m.integer.now h;
  fraction_digits = subst (AllDigits 10) (sym ef) (digits-of f hf);
}

-- whether there is a point, as `any` finds it
pub has-any : (bs : List ℕ) → list_any is_point bs ≡ has_point bs
has-any [] = refl
has-any (x ∷ bs) = ap (λ v. (x == 46) || v) (has-any bs)
