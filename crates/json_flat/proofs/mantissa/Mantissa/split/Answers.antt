use Rattle.std.proofs.Common.{sym, ◌∙◌}
use Rattle.json_flat.proofs.Splitting.{integer-parts, float-parts}
use Rattle.json_flat.proofs.mantissa.Mantissa.split.Goals as goal
use Rattle.json_flat.proofs.mantissa.Mantissa.split.Goals.{in-None, in-Some+else-not-are_digits}

pub returns : goal.returns
returns c =
    let minus = c.split_minus-negative.ensures in
    let parts = c.split_point.ensures in
    let int = sym c.is_integer.ensures ∙ c.if-not-is_integer.false in
    elim c.match-behind.branch [
      | in-None w ↦ integer-parts _ _ c.split_minus-negative.result.1.now minus.rest minus.negative parts.integer int (rw w.in-None.is at parts.fraction) (λ i. (w.fraction-is i).now)
      | in-Some+else-not-are_digits w ↦ float-parts _ _ c.split_minus-negative.result.1.now w.in-Some.fraction.now minus.rest minus.negative parts.integer int (rw w.in-Some.is at parts.fraction) (sym w.are_digits.ensures ∙ w.if-not-are_digits.false) (λ i. (w.fraction-is i).now)
    ]
