use mir.Syntax.{w128}
use Rattle.std.proofs.Common.{◌∙◌, rules}
use Rattle.std.specs.Prelude.{FitsSigned}
use Rattle.std.specs.Str.Parse.{digits_value, without_leading_sign}
use Rattle.json_flat.proofs.Signs.{a-value, no-value, ranged, valued}
use Rattle.json_flat.proofs.whole.read_whole_text.Goals as goal

pub returns-in_err-value : goal.returns-in_err-value
returns-in_err-value c =
    let m = c.as_bytes.result.now in
    let e = c.as_bytes-2.result.now in
    let parts = c.in_ok-mantissa.ensures in
    let exponent = c.in_ok-exponent.ensures in
    let value = valued m e c.in_ok-mantissa.mantissa c.in_ok-exponent.exponent parts exponent.1 in
    let power = digits_value 10 (without_leading_sign e) in
    no-value _ _ _ m e c.args.low c.args.high _ c.as_bytes.ensures.value c.as_bytes-2.ensures.value parts.well_formed exponent.0 value c.ranges.low c.ranges.high (c.in_err-value.ensures power exponent.2) c.from_residual-in_err-value.ensures

pub returns : goal.returns
returns c =
    let m = c.as_bytes.result.now in
    let e = c.as_bytes-2.result.now in
    let parts = c.in_ok-mantissa.ensures in
    let exponent = c.in_ok-exponent.ensures in
    let value = valued m e c.in_ok-mantissa.mantissa c.in_ok-exponent.exponent parts exponent.1 in
    let power = digits_value 10 (without_leading_sign e) in
    let fits : FitsSigned w128 c.in_ok-value.value = search rules in
    a-value _ _ _ m e c.args.low c.args.high c.in_ok-value.value c.as_bytes.ensures.value c.as_bytes-2.ensures.value parts.well_formed exponent.0 (c.in_ok-value.ensures power exponent.2 ∙ value) (ranged _ c.args.low c.args.high c.in_ok-value.value c.ranges.low c.ranges.high fits c.in_range.ensures)
