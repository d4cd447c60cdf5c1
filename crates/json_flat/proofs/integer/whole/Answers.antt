use mir.Syntax.{w128}
use Rattle.std.proofs.Common.{◌≡◌, ◌∙◌, [], Some, rules, sym, ap}
use Rattle.std.specs.Prelude.{FitsSigned}
use Rattle.json_flat.specs.Whole.{whole_value, within}
use Rattle.json_flat.proofs.Signs.{ranged, same-range}
use Rattle.json_flat.proofs.Integers.{is-empty}
use Rattle.json_flat.proofs.integer.whole.Goals as goal

pub returns-in-Some : goal.returns-in-Some
returns-in-Some c =
    let none = is-empty c.args.exponent.now c.is_empty.result c.if-is_empty.true c.is_empty.ensures in
    let fits : FitsSigned w128 c.in-Some.value = search rules in
    let value : Some c.in-Some.value ≡ whole_value c.args.mantissa.now c.args.exponent.now =
    sym c.in-Some.ensures ∙ (ap (λ m. whole_value m []) c.as_bytes.ensures.value ∙ ap (whole_value c.args.mantissa.now) (sym none)) in
    ranged _ c.args.low c.args.high c.in-Some.value c.ranges.low c.ranges.high fits c.in_range.ensures ∙ ap (within c.args.low c.args.high) value

pub returns : goal.returns
returns c = same-range _ c.args.low c.args.high _ c.ranges.low c.ranges.high c.read_whole_text.ensures
