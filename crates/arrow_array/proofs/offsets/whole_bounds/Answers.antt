use Rattle.std.proofs.Common.{◌≡◌, ◌-◌, length, map, pos}
use Rattle.std.proofs.lemmas.List.{length-map}
use Rattle.arrow_array.specs.Offsets.{offset_at}
use Rattle.arrow_array.proofs.Boundaries.{ends_in_order}
use Rattle.arrow_array.proofs.offsets.whole_bounds.Goals as goal

pub returns-clause-order : goal.returns-clause-order
returns-clause-order g c =
    let l = length-map c.args.offsets.now g.O.Offset.number in
    let e : offset_at (map g.O.Offset.number c.args.offsets.now) (length (map g.O.Offset.number c.args.offsets.now) - 1) ≡ pos c.offset-end.result = rw l c.offset-end.ensures in
    ends_in_order _ c.args.len c.requires _ _ c.offset-start.ensures e
