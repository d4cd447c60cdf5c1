-- The whole value of a JSON number: its exact value, cut towards zero (RFC 8259, section 6).
use Rattle.std.specs.Prelude.{ℕ, ◌+◌, ◌*◌, ◌/◌, ◌^◌, Bool, not, ◌&&◌, ◌||◌, cond, ◌==◌, ℤ, pos, neg_ℤ, int_le, List, ◌++◌, length, drop, slice_index, Option, Some, None}
use Rattle.std.specs.Char.{is_ascii_digit}
use Rattle.std.specs.List.{list_all, before_first, after_first}
use Rattle.std.specs.Str.Parse.{digits_value, starts_with_minus, without_leading_sign}
use Rattle.json_tree.specs.Tree.{has_point}
use Rattle.json_tree.specs.declared.value.Number.{Number}
use Rattle.json_tree.specs.declared.value.Number.TheVariants.{Integer, Float}

-- ---- the grammar

-- 1*DIGIT
abbrev pub are_digits : List ℕ → Bool
are_digits bytes = not (length bytes == 0) && list_all is_ascii_digit bytes

-- int: 0 alone, or digits of which the first isn't 0
abbrev pub is_int : List ℕ → Bool
is_int bytes = are_digits bytes && (not (slice_index bytes 0 == 0x30) || length bytes == 1)

abbrev pub is_point : ℕ → Bool
is_point byte = byte == 0x2e

-- what stands behind a minus, if there is one
abbrev pub without_minus : List ℕ → List ℕ
without_minus bytes = cond (starts_with_minus bytes) (drop 1 bytes) bytes

-- the digits of a mantissa before its point, and those behind it
abbrev pub integer_part : List ℕ → List ℕ
integer_part mantissa = before_first is_point (without_minus mantissa)

abbrev pub fraction_part : List ℕ → List ℕ
fraction_part mantissa = after_first is_point (without_minus mantissa)

-- int [ frac ]
abbrev pub is_unsigned : List ℕ → Bool
is_unsigned bytes = is_int (before_first is_point bytes) && (not (has_point bytes) || are_digits (after_first is_point bytes))

-- a mantissa = [ minus ] int [ frac ]
abbrev pub is_mantissa : List ℕ → Bool
is_mantissa bytes = is_unsigned (without_minus bytes)

-- an exponent without its e = nothing, or [ minus / plus ] 1*DIGIT
abbrev pub is_exponent : List ℕ → Bool
is_exponent bytes = (length bytes == 0) || are_digits (without_leading_sign bytes)

-- ---- the value

-- The digits before and behind the point as one number, times ten to the exponent, divided by ten for each digit behind
-- the point, and cut.
abbrev pub scaled : List ℕ → List ℕ → Bool → ℕ → ℕ
scaled integer fraction is_negative power =
    let digits = digits_value 10 (integer ++ fraction) in
    cond is_negative (digits / 10 ^ (length fraction + power)) (digits * 10 ^ power / 10 ^ length fraction)

abbrev pub signed : Bool → ℕ → ℤ
signed is_negative magnitude = cond is_negative (neg_ℤ (pos magnitude)) (pos magnitude)

-- the value of a mantissa and an exponent, cut towards zero
abbrev pub whole_of : List ℕ → List ℕ → ℤ
whole_of mantissa exponent = signed (starts_with_minus mantissa)
    (scaled (integer_part mantissa) (fraction_part mantissa) (starts_with_minus exponent) (digits_value 10 (without_leading_sign exponent)))

-- the same, where these are a mantissa and an exponent
abbrev pub whole_value : List ℕ → List ℕ → Option ℤ
whole_value mantissa exponent = cond (is_mantissa mantissa && is_exponent exponent) (Some (whole_of mantissa exponent)) None

-- the whole value of a number; none where no JSON text stands for it
abbrev pub number_value : Number → Option ℤ
number_value (Integer mantissa exponent) = cond (has_point mantissa) None (whole_value mantissa exponent)
number_value (Float mantissa exponent) = cond (has_point mantissa) (whole_value mantissa exponent) None

-- a value from low to high
abbrev pub within : ℤ → ℤ → Option ℤ → Option ℤ
within low high None = None
within low high (Some value) = cond (int_le low value && int_le value high) (Some value) None
