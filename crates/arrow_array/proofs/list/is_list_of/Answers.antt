use Rattle.std.proofs.Common.{◌≡◌, ◌∙◌, sym, false, true}
use Rattle.arrow_array.proofs.ListSlots.{list_kind}
use Rattle.arrow_array.proofs.list.is_list_of.Goals as goal

pub returns-then-not-IS_LARGE : goal.returns-then-not-IS_LARGE
returns-then-not-IS_LARGE g c =
    let small : g.O.Offset.IS_LARGE ≡ false = sym c.IS_LARGE.ensures ∙ c.if-not-IS_LARGE.true in
    rw small (list_kind false _ _ c.in-List.field _ _ c.in-List.is c.get.ensures c.is_same.ensures)

pub returns-then-IS_LARGE : goal.returns-then-IS_LARGE
returns-then-IS_LARGE g c =
    let large : g.O.Offset.IS_LARGE ≡ true = sym c.IS_LARGE-in-LargeList.ensures ∙ c.if-IS_LARGE.true in
    rw large (list_kind true _ _ c.in-LargeList.field _ _ c.in-LargeList.is c.get-then-IS_LARGE.ensures c.is_same-then-IS_LARGE.ensures)
