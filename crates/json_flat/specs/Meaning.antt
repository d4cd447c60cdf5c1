-- The slot that a JSON value (RFC 8259, section 3) stands for in a column of a type.
use Rattle.std.specs.Prelude.{ℕ, ℤ, pos, negsuc, Bool, cond, List, ◌∷◌, ◌++◌, ◌==◌, length, Option, Some, None}
use Rattle.arrow_core.specs.declared.slot.Slot.{Slot}
use Rattle.arrow_core.specs.declared.slot.Slot.TheVariants as slot
use Rattle.arrow_flat.specs.Builders.{optional_slot}
use Rattle.json_tree.specs.Grammar.{text_true, text_false}
use Rattle.json_tree.specs.declared.value.Value.{Value, Value-F}
use Rattle.json_tree.specs.declared.value.Value.TheOpen as layer
use Rattle.json_tree.specs.declared.value.Object.{Object}
use Rattle.json_tree.specs.declared.value.Number.{Number}
use Rattle.json_tree.specs.declared.value.Number.TheVariants.{Integer, Float}
use Rattle.json_flat.specs.Whole.{number_value, within}

-- a slot, a text under a timestamp, or a value that doesn't fit the type
pub data Meaning : Type 0 where
  slot_of : Slot → Meaning
  text_timestamp : Meaning
  unfit : Meaning

-- the outermost part of a value
abbrev pub Layer : Type 0
Layer = Value-F Value Object

abbrev pub null_in : Layer → Meaning
null_in _ = slot_of slot.Null

-- the slot of a boolean, and null where there is none
abbrev pub boolean_meaning : Option Bool → Meaning
boolean_meaning boolean = slot_of (optional_slot slot.Boolean boolean)

-- a boolean; else null
abbrev pub boolean_in : Layer → Meaning
boolean_in (layer.Bool boolean) = boolean_meaning (Some boolean)
boolean_in _ = slot_of slot.Null

-- an integer, where there is one
abbrev pub fitted : Option ℤ → Meaning
fitted (Some n) = slot_of (slot.Integer n)
fitted None = unfit

-- the whole value of a number, from low to high; true is 1 and false 0; else null
abbrev pub whole_in : ℤ → ℤ → Layer → Meaning
whole_in low high (layer.Number number) = fitted (within low high (number_value number))
whole_in low high (layer.Bool boolean) = slot_of (slot.Integer (pos (cond boolean 1 0)))
whole_in low high _ = slot_of slot.Null

-- the same of 64 bits
abbrev pub int64_in : Layer → Meaning
int64_in = whole_in (negsuc 9223372036854775807) (pos 9223372036854775807)

-- the whole value of a number in 64 bits; a text is refused; else null
abbrev pub moment_in : Layer → Meaning
moment_in (layer.Number number) = int64_in (layer.Number number)
moment_in (layer.String text) = text_timestamp
moment_in _ = slot_of slot.Null

-- the text of a number: its mantissa, and where there is an exponent, `e` and the exponent
abbrev pub with_exponent : List ℕ → List ℕ → List ℕ
with_exponent mantissa exponent = cond (length exponent == 0) mantissa (mantissa ++ (0x65 ∷ exponent))

abbrev pub number_text : Number → List ℕ
number_text (Integer mantissa exponent) = with_exponent mantissa exponent
number_text (Float mantissa exponent) = with_exponent mantissa exponent

-- a string, the text of a number, or `true` or `false`; else null
abbrev pub text_in : Layer → Meaning
text_in (layer.String text) = slot_of (slot.String text)
text_in (layer.Number number) = slot_of (slot.String (number_text number))
text_in (layer.Bool boolean) = slot_of (slot.String (cond boolean text_true text_false))
text_in _ = slot_of slot.Null

-- the bytes of a string; else null
abbrev pub bytes_in : Layer → Meaning
bytes_in (layer.String text) = slot_of (slot.Binary text)
bytes_in _ = slot_of slot.Null
