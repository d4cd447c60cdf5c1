use Rattle.std.proofs.Common.{rules, ◌∙◌, sym, ap, length, arith, w64}
use mir.Val.{SFits}
use Rattle.std.proofs.lemmas.Int.{to_z-of_z}
use Rattle.avro_verbatim.proofs.Numbers.{many_bytes}
use Rattle.avro_verbatim.proofs.parts.split_long_number.Goals as goal

pub returns : goal.returns
returns c =
    let passed = c.in_ok-number.ensures.some in
    let all = c.new-cursor.ensures.rest in
    let s : SFits w64 c.in_ok-number.number = search rules in
    rw (to_z-of_z w64 c.in_ok-number.number s)
    (many_bytes c.args.bytes.now passed.0 _ c.in_ok-rest.rest.now c.in_ok-number.number c.left-left.result passed.1 (sym all ∙ passed.2) c.left-left.ensures.length c.in_ok-rest.ensures.read.1 (omega (arith, c.in_ok-number.ensures.shorter, ap length all)) c.if-bytes-end-eq0.false)
