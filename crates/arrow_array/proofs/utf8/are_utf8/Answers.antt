use Rattle.std.proofs.Common.{◌≡◌, arith, ◌-◌, sym, pos, length, map}
use mathlib.Core.Path.{subst}
use Rattle.std.proofs.lemmas.List.{length-map}
use Rattle.std.proofs.lemmas.Bool.{false≢true}
use Rattle.arrow_array.specs.Offsets.{offset_at, IsBoundary}
use Rattle.arrow_array.proofs.Boundaries.{all_from, all_utf8, boundaries, between_boundaries}
use Rattle.arrow_array.proofs.utf8.are_utf8.Goals as goal

pub are_boundaries-requires : goal.are_boundaries-requires
are_boundaries-requires g c =
    let l = length-map c.args.offsets.now g.O.Offset.number in
    let e : offset_at (map g.O.Offset.number c.args.offsets.now) (length (map g.O.Offset.number c.args.offsets.now) - 1) ≡ pos c.whole_bounds-start.result.1 = rw l c.whole_bounds-start.ensures.end in
    record { from = λ k h. all_from _ c.args.values.now c.requires _ _ c.whole_bounds-start.ensures.start e k (omega (arith, l, h)) }

pub returns-in-Ok : goal.returns-in-Ok
returns-in-Ok g c =
    let l = length-map c.args.offsets.now g.O.Offset.number in
    let e : offset_at (map g.O.Offset.number c.args.offsets.now) (length (map g.O.Offset.number c.args.offsets.now) - 1) ≡ pos c.whole_bounds-start.result.1 = rw l c.whole_bounds-start.ensures.end in
    let is = c.in-Ok.ensures.cases in (
      λ h. between_boundaries _ c.args.values.now c.requires _ _ c.whole_bounds-start.ensures.start e is.1
          (λ k s. subst (λ t. IsBoundary t c.whole_bounds-start.result.0 (offset_at (map g.O.Offset.number c.args.offsets.now) k)) is.0 (c.are_boundaries.ensures.0 h k (omega (arith, l, s)))),
      λ t. c.are_boundaries.ensures.1 (λ k s. subst (λ u. IsBoundary u c.whole_bounds-start.result.0 (offset_at (map g.O.Offset.number c.args.offsets.now) k)) (sym is.0)
          (boundaries _ c.args.values.now c.requires _ _ c.whole_bounds-start.ensures.start e t k (omega (arith, l, s)))),
    )

pub returns-in-Err : goal.returns-in-Err
returns-in-Err g c =
    let l = length-map c.args.offsets.now g.O.Offset.number in
    let e : offset_at (map g.O.Offset.number c.args.offsets.now) (length (map g.O.Offset.number c.args.offsets.now) - 1) ≡ pos c.whole_bounds-start.result.1 = rw l c.whole_bounds-start.ensures.end in
    (λ f. absurd (false≢true f), λ t. absurd (c.in-Err.ensures.cases.0 (all_utf8 _ c.args.values.now c.requires _ _ c.whole_bounds-start.ensures.start e t)))
