use Rattle.std.proofs.Common.{◌≡◌, ◌∙◌, ◌-◌, ap, arith, List, Some, Option, ℕ, length}
use Rattle.arrow_builders.specs.MutableArrays.{builder_slots}
use Rattle.arrow_flat.specs.Nested.{items_of, lists_from}
use Rattle.arrow_builders.specs.declared.array.MutableArray.{MutableArray}
use Rattle.arrow_flat.proofs.ListOffsets.{items_of-push, list-rest}
use Rattle.arrow_builders.proofs.large_list.DynMutableLargeListArray.try_push_valid.Goals as goal

pub returns-clause-ok : goal.returns-clause-ok
returns-clause-ok c =
    let xs = builder_slots c.args.self.now.values.value in
    let ls = c.args.self.now.lists.lens in
    let e : c.len-end.result ≡ length xs = c.len-end.ensures ∙ ap (λ (b : MutableArray). length (builder_slots b)) c.deref.ensures in
    ap (λ (ls : List (Option ℕ)). lists_from 0 ls xs) c.in_ok-push_list.ensures.ok ∙ list-rest ls xs c.len-end.result e c.in_ok-push_list.ensures.order

pub returns-clause-end : goal.returns-clause-end
returns-clause-end c =
    let ls = c.args.self.now.lists.lens in
    let d : c.len-end.result ≡ length (builder_slots c.args.self.now.values.value) = c.len-end.ensures ∙ ap (λ (b : MutableArray). length (builder_slots b)) c.deref.ensures in
    let e = items_of-push ls (Some (c.len-end.result - items_of ls)) in
    ap items_of c.in_ok-push_list.ensures.ok ∙ omega (arith, e, d, c.in_ok-push_list.ensures.order)
