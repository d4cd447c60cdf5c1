use Rattle.std.proofs.Common.{◌≡◌, true, false, sym, ◌∙◌}
use Rattle.avro_decode.proofs.FieldSteps.{pair_step}
use Rattle.avro_skip.proofs.Unions.{two_of}
use Rattle.avro_decode.proofs.steps.step_of_union.Goals as goal

pub returns-then-is_null : goal.returns-then-is_null
returns-then-is_null c =
    let two = two_of c.args.members.now c.first-item.result c.second-item.result c.in-len2.len_at_least c.in-len2.len_below c.first-item.is c.second-item.is in
    pair_step c.args.members.now c.first-item.result c.second-item.result true c.kind_of.result two (c.is_null.ensures.0 c.if-is_null.true, c.kind_of.ensures)

pub returns-else-is_null : goal.returns-else-is_null
returns-else-is_null c =
    let two = two_of c.args.members.now c.first-item.result c.second-item.result c.in-len2.len_at_least c.in-len2.len_below c.first-item.is c.second-item.is in
    pair_step c.args.members.now c.first-item.result c.second-item.result false c.kind_of-else-is_null.result two (λ h. let q : true ≡ false = sym (c.is_null.ensures.1 h) ∙ c.if-is_null.false in absurd cc, c.kind_of-else-is_null.ensures)
