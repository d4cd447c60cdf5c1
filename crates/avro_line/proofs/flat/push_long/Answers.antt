use Rattle.std.proofs.Common.{rules, w64}
use mir.Val.{SFits}
use Rattle.std.proofs.lemmas.Int.{to_z-of_z}
use Rattle.avro_line.proofs.Flats.{if_long}
use Rattle.avro_line.proofs.flat.push_long.Goals as goal

pub returns : goal.returns
returns g c =
    let s : SFits w64 c.in-Some.number = search rules in
    if_long c.push_formed.result _ _ _ _ _ c.in-Some.number c.in-Some.ensures.reads (rw (to_z-of_z w64 c.in-Some.number s) at c.push_formed.ensures)
