use Rattle.std.proofs.Common.{rules, w64}
use mir.Val.{SFits}
use Rattle.std.proofs.lemmas.Int.{to_z-of_z}
use Rattle.avro_verbatim.proofs.Numbers.{one_byte}
use Rattle.avro_verbatim.proofs.parts.split_number.Goals as goal

pub returns-in-Some : goal.returns-in-Some
returns-in-Some c =
    let s : SFits w64 c.signed.result = search rules in
    rw (to_z-of_z w64 c.signed.result s)
    (one_byte c.args.bytes.now c.in-Some.rest.now c.in-Some.byte.now c.signed.result c.in-Some.ensures.cases.0 c.if-byte-lt128.true c.signed.ensures)
