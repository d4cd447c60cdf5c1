use Rattle.std.proofs.Common.{rules, w64}
use mir.Val.{SFits}
use Rattle.std.proofs.lemmas.Int.{to_z-of_z}
use Rattle.avro_reference.proofs.Counting.{number_first}
use Rattle.avro_skip.proofs.Flats.{stated_passes, stated_negative}
use Rattle.avro_skip.proofs.flat.skip_sized_items.Goals as goal

pub returns-in-Ok-clause-moves : goal.returns-in-Ok-clause-moves
returns-in-Ok-clause-moves g c =
    number_first _ _ _ _ _ _ c.in-Some.ensures.costs c.in-Some.ensures.moves c.skip_bytes.ensures.moves

pub returns-in-Ok-clause-passes : goal.returns-in-Ok-clause-passes
returns-in-Ok-clause-passes g c =
    let n = c.in-Some.ensures in
    let e = c.skip_bytes.ensures in
    let s : SFits w64 c.in-Some.size = search rules in
    stated_passes _ _ _ _ _ _ c.in-Some.size _ c.skip_bytes.result n.reads (rw (to_z-of_z w64 c.in-Some.size s) at c.in-Ok.ensures) n.costs e.jumps e.shorter e.shown e.calls

pub returns-in-Err-clause-passes : goal.returns-in-Err-clause-passes
returns-in-Err-clause-passes g c =
    let s : SFits w64 c.in-Some.size = search rules in
    let h = rw (to_z-of_z w64 c.in-Some.size s) at c.in-Err.ensures in
    rw h.0 (stated_negative _ _ c.in-Some.size c.in-Some.ensures.reads h.1)
