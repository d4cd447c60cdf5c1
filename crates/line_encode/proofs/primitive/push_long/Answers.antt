use mir.Syntax.{w64}
use mir.Val.{to_z, of_z}
use Rattle.std.proofs.Common.{◌≡◌, ◌∙◌, pos, negsuc, rules}
use Rattle.std.proofs.lemmas.Int.{to_z-of_z}
use Rattle.std.specs.Prelude.{FitsSigned}
use Rattle.line_encode.proofs.Forms.{integer_added}
use Rattle.line_encode.proofs.primitive.push_long.Goals as goal

pub returns : goal.returns
returns c =
    let v = c.in-Some.value in
    let h = c.in-Some.ensures in
    let same : v ≡ h.0 = cc in
    let fits : FitsSigned w64 v = search rules in
    let cast : to_z w64 (of_z w64 v) ≡ v = to_z-of_z w64 v fits in
    integer_added c.args.nullable (negsuc 9223372036854775807) (pos 9223372036854775807) h.0 (to_z w64 (of_z w64 v)) c.args.mantissa.now c.args.exponent.now c.args.out.now.items c.push_index.new.out.items c.append_number.new.out.items h.1 (cast ∙ same) c.in_ok-push_index.ensures c.in_ok-append_number.ensures.ok
