-- The attributes of a schema that is a JSON object (Avro 1.11, "Schema Declaration").
use Rattle.std.specs.Prelude.{ℕ, List, [], ◌∷◌, ◌&&◌, nat_le, nat_lt, Option, Some, None, option_and_then, length, if◌then◌else◌}
use Rattle.std.specs.Str.Parse.{digits_value}
use Rattle.std.specs.Char.{is_digit}
use Rattle.std.specs.List.{list_all}
use Rattle.json_tree.specs.Tree.{Json}
use Rattle.json_tree.specs.Keys.{value_of}
use Rattle.json_tree.specs.declared.value.Value.{Value, out-Value, Value-F}
use Rattle.json_tree.specs.declared.value.Value.TheOpen as layer
use Rattle.json_tree.specs.declared.value.Object.{Object as Attributes}
use Rattle.json_tree.specs.declared.value.Number.{Number}
use Rattle.json_tree.specs.declared.value.Number.TheVariants.{Integer, Float}

-- the value of the attribute with this name
abbrev pub attribute : List ℕ → Attributes → Option Json
attribute name attributes = value_of name attributes.members

abbrev pub string_in : Value-F Value Attributes → Option (List ℕ)
string_in (layer.String text) = Some text
string_in _ = None

abbrev pub items_in : Value-F Value Attributes → Option (List Json)
items_in (layer.Array items) = Some items
items_in _ = None

abbrev pub attributes_in : Value-F Value Attributes → Option Attributes
attributes_in (layer.Object attributes) = Some attributes
attributes_in _ = None

-- the number of digits alone, up to 2147483647: without a sign, a point or an exponent
abbrev pub digits_count : List ℕ → List ℕ → Option ℕ
digits_count mantissa (byte ∷ bytes) = None
digits_count mantissa [] =
    if nat_lt 0 (length mantissa) && (list_all (λ byte. is_digit byte 10) mantissa && nat_le (digits_value 10 mantissa) 2147483647)
    then Some (digits_value 10 mantissa)
    else None

abbrev pub number_count : Number → Option ℕ
number_count (Integer mantissa exponent) = digits_count mantissa exponent
number_count (Float mantissa exponent) = None

abbrev pub count_in : Value-F Value Attributes → Option ℕ
count_in (layer.Number number) = number_count number
count_in _ = None

-- a value that is a string, an array, an object, or a number of digits alone

unfoldable pub string_of : Json → Option (List ℕ)
string_of value = string_in (out-Value value)

unfoldable pub items_of : Json → Option (List Json)
items_of value = items_in (out-Value value)

unfoldable pub attributes_of : Json → Option Attributes
attributes_of value = attributes_in (out-Value value)

unfoldable pub count_of : Json → Option ℕ
count_of value = count_in (out-Value value)

-- the strings of an array of strings
unfoldable pub strings_of : List Json → Option (List (List ℕ))
strings_of [] = Some []
strings_of (value ∷ values) = option_and_then (λ text. option_and_then (λ texts. Some (text ∷ texts)) (strings_of values)) (string_of value)

-- an attribute that is a string, an array, or a number of digits alone

abbrev pub string_at : List ℕ → Attributes → Option (List ℕ)
string_at name attributes = option_and_then string_of (attribute name attributes)

abbrev pub items_at : List ℕ → Attributes → Option (List Json)
items_at name attributes = option_and_then items_of (attribute name attributes)

abbrev pub count_at : List ℕ → Attributes → Option ℕ
count_at name attributes = option_and_then count_of (attribute name attributes)
