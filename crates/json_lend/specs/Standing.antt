-- The value that stands where a value is lent (RFC 8259, section 3).
use Rattle.json_tree.specs.Tree.{Json, null, boolean, number, string, array, object}
use Rattle.json_lend.specs.declared.lent.Lent.{Lent}
use Rattle.json_lend.specs.declared.lent.Lent.TheVariants as lent

-- the value that is lent
abbrev pub lent_value : Lent → Json
lent_value lent.Null = null
lent_value (lent.Bool truth) = boolean truth
lent_value (lent.Number mantissa exponent) = number mantissa.now exponent.now
lent_value (lent.String text) = string text.now
lent_value (lent.Escaped text) = string text
lent_value (lent.Array items) = array items
lent_value (lent.Object members) = object members
