use Rattle.std.proofs.Common.{◌≡◌, ◌∙◌, ap, sym, arith, pos}
use Rattle.arrow_flat.specs.Nested.{ListMarks, items_of}
use Rattle.arrow_flat.proofs.ListOffsets.{hold_count, hold_end}
use Rattle.arrow_flat.proofs.lists.MutableLists.end.Goals as goal

pub index-requires : goal.index-requires
index-requires g c =
    let n = hold_count g.O.Offset.IS_LARGE g.O.Offset.number _ _ _ c.self.invariant in
    omega (arith, n, c.len.ensures, c.self.inside.offsets.ok.0)

pub to_usize-requires : goal.to_usize-requires
to_usize-requires g c =
    let e = hold_end g.O.Offset.IS_LARGE g.O.Offset.number _ _ _ c.self.invariant c.index.result.now (rw c.len.ensures at c.index.ensures) in
    rw e tt

pub returns-clause-end : goal.returns-clause-end
returns-clause-end g c =
    let e = hold_end g.O.Offset.IS_LARGE g.O.Offset.number _ _ _ c.self.invariant c.index.result.now (rw c.len.ensures at c.index.ensures) in
    let d : pos c.to_usize.result ≡ pos (items_of _) = sym c.to_usize.ensures ∙ e in
    let n : c.to_usize.result ≡ items_of _ = cc in
    n ∙ ap (λ (m : ListMarks). items_of m.lens) c.self.view_is
