use Rattle.std.proofs.Common.{rules, w64}
use mir.Val.{SFits}
use Rattle.std.proofs.lemmas.Int.{to_z-of_z}
use Rattle.avro_line.proofs.Flats.{if_int, int_fits}
use Rattle.avro_line.proofs.flat.push_int.Goals as goal

pub returns-in-Ok : goal.returns-in-Ok
returns-in-Ok g c =
    let s : SFits w64 c.in-Some.number = search rules in
    let fits = rw (to_z-of_z w64 c.in-Some.number s) at c.in-Ok.ensures in
    if_int c.push_formed.result _ _ _ _ _ c.in-Some.number c.in-Some.ensures.reads (int_fits c.in-Some.number fits.0) (rw (to_z-of_z w64 c.in-Some.number s) at c.push_formed.ensures)
