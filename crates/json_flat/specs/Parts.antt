-- What the parts of a number come to. Contracts of private functions alone cite this file.
use Rattle.std.specs.Prelude.{◌≡◌, ◌<◌, ◌≤◌, ◌^◌, ◌+◌, ◌-◌, ℕ, Bool, true, false, cond, ℤ, List, [], Option, Some, None, MatchOption, FitsSigned}
use Rattle.std.specs.List.{after_first}
use Rattle.std.specs.Str.Parse.{starts_with_minus, AllDigits}
use Rattle.json_tree.specs.Tree.{has_point}
use Rattle.json_flat.specs.declared.mantissa.Mantissa.{Mantissa}
use Rattle.json_flat.specs.Whole.{is_point, is_mantissa, integer_part, fraction_part}
use mir.Syntax.{w128}

-- what stands behind the point, if there is one
abbrev pub IsFraction : List ℕ → Option (List ℕ) → Type 0
IsFraction bytes None = (has_point bytes ≡ false) × (after_first is_point bytes ≡ [])
IsFraction bytes (Some fraction) = (has_point bytes ≡ true) × (fraction ≡ after_first is_point bytes)

-- the parts of a mantissa
pub record IsMantissaOf (bytes : List ℕ) (m : Mantissa) : Type 0 where
  pub well_formed : is_mantissa bytes ≡ true
  pub negative : m.negative ≡ starts_with_minus bytes
  pub integer : m.integer.now ≡ integer_part bytes
  pub fraction : m.fraction.now ≡ fraction_part bytes
  pub integer_digits : AllDigits 10 m.integer.now
  pub fraction_digits : AllDigits 10 m.fraction.now

-- the number, or nothing where it has more than 128 bits
abbrev pub Counts : Option ℕ → ℕ → Type 0
Counts result n = MatchOption result (2 ^ 128 ≤ n) (λ v. (v ≡ n) × (n < 2 ^ 128))

-- the same with a sign
abbrev pub IsSigned : Option ℤ → ℤ → Type 0
IsSigned result n = MatchOption result (FitsSigned w128 n → ⊥) (λ v. v ≡ n)

-- how many digits stand before the point once an exponent has moved it
abbrev pub point_of : ℕ → Bool → ℕ → ℕ
point_of integer is_negative power = cond is_negative (integer - power) (integer + power)
