use Rattle.std.proofs.Common.{◌≡◌, ◌∙◌, ap, refl, arith, ◌+◌, ◌≤◌, ◌++◌, ◌∷◌, [], length, List, Bool}
use Rattle.std.proofs.lemmas.List.{length-append}
use Rattle.arrow_core.specs.Numbers.{greatest_offset}
use Rattle.arrow_flat.proofs.Contents.{hold_more, show_more, HoldContents-count}
use Rattle.arrow_flat.specs.Builders.{ContentBuilder}
use Rattle.arrow_flat.proofs.content.MutableContentArray.push_slot.Goals as goal

pub invariant_of-self-2 : goal.invariant_of-self-2
invariant_of-self-2 g c =
    let a = c.in_ok-append.ensures.items in
    let d : c.in-Some.end ≡ length c.self.inside.values.items + length c.args.bytes.now = omega (arith, c.in-Some.ensures, c.len.ensures, c.self.inside.values.ok.0) in
    let f : c.in-Some.end ≤ greatest_offset g.O.Offset.IS_LARGE = c.in-Some-from_usize.ensures.fits.0 refl in
    let l = length-append c.self.inside.values.items c.args.bytes.now in (
      hold_more g.C.Content.holds g.C.Content.slot g.O.Offset.number c.self.inside.offsets.items _ c.in-Some-from_usize.offset c.self.inside.values.items _ c.args.bytes.now c.self.inside.validity.items _ c.args.is_valid c.in-Some.end
          c.self.invariant.0
          (c.push_reserved.ensures.items ∙ ap (λ xs. xs ++ c.in-Some-from_usize.offset ∷ []) c.reserve_item.ensures.items)
          c.in-Some-from_usize.ensures.same
          a
          d
          (c.push_reserved-2.ensures.items ∙ ap (λ (xs : List Bool). xs ++ c.args.is_valid ∷ []) c.reserve_one.ensures.items)
          c.requires,
      rw a (omega (arith, d, f, l)),
      c.self.invariant.2,
    )

pub returns-clause-ok : goal.returns-clause-ok
returns-clause-ok g c =
    let d : c.in-Some.end ≡ length c.self.inside.values.items + length c.args.bytes.now = omega (arith, c.in-Some.ensures, c.len.ensures, c.self.inside.values.ok.0) in
    rw (← c.self.view_is) (show_more g.C.Content.holds g.C.Content.slot g.O.Offset.number c.self.inside.offsets.items _ c.in-Some-from_usize.offset c.self.inside.values.items _ c.args.bytes.now c.self.inside.validity.items _ c.args.is_valid c.in-Some.end
    c.self.invariant.0
    (c.push_reserved.ensures.items ∙ ap (λ xs. xs ++ c.in-Some-from_usize.offset ∷ []) c.reserve_item.ensures.items)
    c.in-Some-from_usize.ensures.same
    (c.in_ok-append.ensures.items)
    d
    (c.push_reserved-2.ensures.items ∙ ap (λ (xs : List Bool). xs ++ c.args.is_valid ∷ []) c.reserve_one.ensures.items))

pub returns-in_err-reserve_item-clause-has_capacity : goal.returns-in_err-reserve_item-clause-has_capacity
returns-in_err-reserve_item-clause-has_capacity g c = λ one bytes total.
    let n = HoldContents-count g.C.Content.holds g.O.Offset.number _ _ _ c.self.invariant.0 in
    let s : _ ≡ c.args.self.now.spare = ap (λ (b : ContentBuilder). b.spare) c.self.view_is in
    absurd (omega (arith, n, s, c.self.inside.offsets.ok.0, c.in_err-reserve_item.ensures.full))
