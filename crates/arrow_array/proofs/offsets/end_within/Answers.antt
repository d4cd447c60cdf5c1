use Rattle.std.proofs.Common.{◌≡◌, arith, ◌-◌, length, map, pos}
use Rattle.std.proofs.lemmas.Bool.{leb-true, le-leb}
use Rattle.std.proofs.lemmas.List.{length-map}
use Rattle.arrow_array.specs.Offsets.{offset_at}
use Rattle.arrow_array.proofs.Boundaries.{reach}
use Rattle.arrow_array.proofs.Rising.{never_past}
use Rattle.arrow_array.proofs.offsets.end_within.Goals as goal

pub returns : goal.returns
returns g c =
    let l = length-map c.args.offsets.now g.O.Offset.number in
    let e : offset_at (map g.O.Offset.number c.args.offsets.now) (length (map g.O.Offset.number c.args.offsets.now) - 1) ≡ pos c.offset.result = rw l c.offset.ensures in (
      λ t. reach _ _ c.requires.1 _ _ e (leb-true _ _ t),
      λ o. le-leb _ _ (never_past _ _ _ _ o (omega (arith, o.filled)) e),
    )
