use Rattle.std.proofs.Common.{◌∙◌, ap, sym, nat_lt, length, get_or}
use borrow.Author.Tests.{ltb-true}
use Rattle.std.specs.Str.{bytes_eq}
use Rattle.json_tree.specs.Keys.{value_of}
use Rattle.json_tree.proofs.KeyIndices.{value-near}
use Rattle.json_tree.proofs.members.Members.get_near.Goals as goal

pub returns-in-Some : goal.returns-in-Some
returns-in-Some g c =
    let k = c.args.key.now in
    let near = c.args.near in
    let pair = c.in-Some.pair.now in
    let found = c.in-Some.ensures.lookup in
    let lent = c.deref.ensures.value in
    ap (value_of k) (sym c.self.view_is)
    ∙ value-near c.self.inside.pairs.items k near pair c.self.invariant.0
    (ltb-true near (length c.self.inside.pairs.items) (sym (found.0 ∙ ap (λ ms. nat_lt near (length ms)) lent)))
    (found.1 ∙ ap (λ ms. get_or ms near pair) lent) (ap (λ s. bytes_eq s k) (sym c.as_str.ensures) ∙ sym c.are_same.ensures ∙ c.if-are_same.true)
