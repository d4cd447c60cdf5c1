use Rattle.std.proofs.Common.{sym, ◌∙◌}
use Rattle.json_flat.proofs.Signs.{integer-value, float-value}
use Rattle.json_flat.proofs.whole.read_whole.Goals as goal

pub returns-else-has_point : goal.returns-else-has_point
returns-else-has_point c =
    integer-value _ c.args.number.now c.in-Integer.mantissa c.in-Integer.exponent c.as_str.result.now c.as_str-in-Integer.result.now c.as_str-in-Integer-2.result.now c.args.low c.args.high c.in-Integer.is c.as_str.ensures (sym c.has_point.ensures ∙ c.if-has_point.false) c.as_str-in-Integer.ensures c.as_str-in-Integer-2.ensures c.ranges.low c.ranges.high c.read_whole_text.ensures

pub returns-else-not-has_point : goal.returns-else-not-has_point
returns-else-not-has_point c =
    float-value _ c.args.number.now c.in-Float.mantissa c.in-Float.exponent c.as_str-in-Float.result.now c.as_str-in-Float-2.result.now c.as_str-in-Float-3.result.now c.args.low c.args.high c.in-Float.is c.as_str-in-Float.ensures (sym c.has_point-in-Float.ensures ∙ c.if-not-has_point.false) c.as_str-in-Float-2.ensures c.as_str-in-Float-3.ensures c.ranges.low c.ranges.high c.read_whole_text-in-Float.ensures
