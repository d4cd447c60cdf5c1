use mir.Syntax.{w128}
use mir.Val.{SFits}
use Rattle.std.proofs.lemmas.Int.{to_z-of_z}
use Rattle.std.proofs.Common.{◌∙◌, Some, rules, sym, ap}
use Rattle.json_flat.specs.Whole.{signed}
use Rattle.json_flat.proofs.Integers.{digits-whole}
use Rattle.json_flat.proofs.integer.integer_value.Goals as goal

pub returns : goal.returns
returns c =
    let e = c.in_ok-magnitude.ensures in
    let v = c.with_sign.result in
    let fits : SFits w128 v = search rules in
    digits-whole c.args.mantissa.now _ c.in_ok-magnitude.magnitude c.split_minus-is_negative.ensures.rest e.0 e.1
    ∙ (ap (λ b. Some (signed b c.in_ok-magnitude.magnitude)) (sym c.split_minus-is_negative.ensures.negative) ∙ (ap Some (sym c.with_sign.ensures) ∙ ap Some (sym (to_z-of_z w128 v fits))))
