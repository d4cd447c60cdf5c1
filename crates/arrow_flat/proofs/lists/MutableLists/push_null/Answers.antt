use Rattle.std.proofs.Common.{◌≡◌, ◌∙◌, ap, sym, refl, arith, ◌+◌, ◌++◌, ◌∷◌, [], List, ℕ, pos, Option, None, map, length, false}
use Rattle.std.proofs.lemmas.List.{length_push}
use Rattle.arrow_flat.specs.Nested.{ListMarks, items_of, list_len, lens_of}
use Rattle.arrow_flat.proofs.ListOffsets.{hold_count, hold_list, show_list, numbers-push, view_len}
use Rattle.arrow_flat.proofs.lists.MutableLists.push_null.Goals as goal

abbrev lens : (g : _) (c : goal.After-push_reserved g) → List (Option ℕ)
lens g c = lens_of (map g.O.Offset.number c.self.inside.offsets.items) c.self.inside.marks.booleans

ends : (g : _) (c : goal.After-push_reserved g) → c.end-end.result ≡ items_of (lens g c)
ends g c = c.end-end.ensures.end ∙ ap (λ (m : ListMarks). items_of m.lens) (sym c.self.view_is)

numbers : (g : _) (c : goal.After-push_reserved g) → map g.O.Offset.number c.push_reserved.new.self.items ≡ map g.O.Offset.number c.self.inside.offsets.items ++ pos c.end-end.result ∷ []
numbers g c = numbers-push g.O.Offset.number _ _ c.in-Some.offset c.end-end.result (c.push_reserved.ensures.items ∙ ap (λ xs. xs ++ c.in-Some.offset ∷ []) c.reserve.ensures.items) c.in-Some.ensures.same

reach : (g : _) (c : goal.After-push_reserved g) → c.end-end.result ≡ items_of (lens g c) + list_len None
reach g c = omega (arith, ends g c)

pub invariant_of-self-2 : goal.invariant_of-self-2
invariant_of-self-2 g c =
    hold_list g.O.Offset.IS_LARGE _ _ _ _ (lens g c) None c.end-end.result c.self.invariant (numbers g c) c.in_ok-push.ensures.ok (reach g c) (c.in-Some.ensures.fits.0 refl)

pub returns-clause-ok : goal.returns-clause-ok
returns-clause-ok g c =
    rw (← c.self.view_is) (show_list g.O.Offset.IS_LARGE _ _ _ _ (lens g c) None c.end-end.result c.self.invariant (numbers g c) c.in_ok-push.ensures.ok (reach g c))

pub returns-in_err-reserve-clause-has_capacity : goal.returns-in_err-reserve-clause-has_capacity
returns-in_err-reserve-clause-has_capacity g c = λ one.
    let n = hold_count g.O.Offset.IS_LARGE g.O.Offset.number _ _ _ c.self.invariant in
    let s : _ ≡ c.args.self.now.spare = ap (λ (m : ListMarks). m.spare) c.self.view_is in
    absurd (omega (arith, n, s, c.self.inside.offsets.ok.0, c.in_err-reserve.ensures.full))

pub returns-clause-capacity : goal.returns-clause-capacity
returns-clause-capacity g c =
    let b = c.self.inside in
    let n = hold_count g.O.Offset.IS_LARGE g.O.Offset.number _ _ _ c.self.invariant in
    let k = view_len g.O.Offset.IS_LARGE g.O.Offset.number b.offsets.items b.marks.booleans c.self.invariant in
    let m = view_len g.O.Offset.IS_LARGE g.O.Offset.number c.push_reserved.new.self.items c.push.new.self.booleans (invariant_of-self-2 g c) in
    let t = ap length c.in_ok-push.ensures.ok ∙ length_push b.marks.booleans false in
    rw (← c.self.view_is) (record {
      slots = omega (arith, n, k, m, t, b.offsets.ok.0, c.push_reserved.ensures.capacity, c.reserve.ensures.capacity, c.push.ensures.capacity.slots);
      bytes = omega arith;
    })
