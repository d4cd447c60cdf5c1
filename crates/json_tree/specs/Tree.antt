-- The values that JSON texts stand for (RFC 8259, section 3).
use Rattle.std.specs.Prelude.{ℕ, List, [], ◌∷◌, Bool, false, cond, ◌==◌, ◌||◌, Option, Some, None}
use Rattle.json_tree.specs.declared.value.Value.{Value, Null, Bool as TheBool, Number as TheNumber, String, Array, Object}
use Rattle.json_tree.specs.declared.value.Number.TheVariants.{Integer, Float}

abbrev pub Json : Type 0
Json = Value

abbrev pub null : Json
null = Null

-- a value, or null where there is none
abbrev pub or_null : Option Json → Json
or_null None = null
or_null (Some value) = value

abbrev pub boolean : Bool → Json
boolean value = TheBool value

abbrev pub has_point : List ℕ → Bool
has_point [] = false
has_point (byte ∷ bytes) = (byte == 0x2e) || has_point bytes

-- a number is Float where its mantissa has a point
abbrev pub number : List ℕ → List ℕ → Json
number mantissa exponent = TheNumber (cond (has_point mantissa) (Float mantissa exponent) (Integer mantissa exponent))

abbrev pub string : List ℕ → Json
string text = String text

abbrev pub array : List Json → Json
array items = Array items

abbrev pub object : List (List ℕ × Json) → Json
object members = Object (record { members = members })
