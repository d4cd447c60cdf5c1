use Rattle.std.proofs.Common.{◌≡◌, ◌≤◌, ◌<◌, ◌+◌, ◌-◌, ◌∙◌, drop, length, MatchOption, subst}
use Rattle.json_tree.specs.Keys.{keys_of}
use Rattle.json_tree.specs.Layout.{key_index}
use Rattle.json_tree.proofs.KeyIndices.{found-behind}
use Rattle.json_tree.proofs.members.Members.find.Goals as goal

pub returns-in-None : goal.returns-in-None
returns-in-None g c =
    let k = c.args.key.now in
    let p = subst (λ ms. key_index k (keys_of ms) ≡ (length ms - (length ms - 16)) + key_index k (keys_of (drop 16 ms))) c.deref.ensures.value c.in-None.ensures in
    subst (λ ms. MatchOption c.copied.result (length ms ≤ key_index k (keys_of ms)) (λ i. (i ≡ key_index k (keys_of ms)) × (i < length ms))) c.self.view_is
    (found-behind c.self.inside.pairs.items k c.copied.result (c.copied.ensures ∙ c.get.ensures.value ∙ c.self.invariant.1 k) p)
