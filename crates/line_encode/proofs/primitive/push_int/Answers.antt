use mir.Syntax.{w32, w64}
use mir.Val.{to_z, of_z}
use Rattle.std.proofs.Common.{◌≡◌, ◌∙◌, pos, negsuc, ap, rules, arith}
use Rattle.std.proofs.lemmas.Int.{ints, to_z-of_z}
use Rattle.std.specs.Prelude.{FitsSigned}
use Rattle.line_encode.proofs.Forms.{integer_added}
use Rattle.line_encode.proofs.primitive.push_int.Goals as goal

pub returns : goal.returns
returns c =
    let v = c.in-Some.value in
    let h = c.in-Some.ensures in
    let same : v ≡ h.0 = cc in
    let small : FitsSigned w32 v = search rules in
    let fits : FitsSigned w64 v = omega (arith, ints, small) in
    let cast : to_z w64 (of_z w64 (to_z w32 (of_z w32 v))) ≡ v = ap (λ k. to_z w64 (of_z w64 k)) (to_z-of_z w32 v small) ∙ to_z-of_z w64 v fits in
    integer_added c.args.nullable (negsuc 2147483647) (pos 2147483647) h.0 (to_z w64 (of_z w64 (to_z w32 (of_z w32 v)))) c.args.mantissa.now c.args.exponent.now c.args.out.now.items c.push_index.new.out.items c.append_number.new.out.items h.1 (cast ∙ same) c.in_ok-push_index.ensures c.in_ok-append_number.ensures.ok
