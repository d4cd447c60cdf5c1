use Rattle.std.proofs.Common.{◌≡◌, ◌<◌, ◌∙◌, length, ap, sym, subst}
use Rattle.json_tree.specs.Keys.{keys_of, value_of}
use Rattle.json_tree.specs.Layout.{key_index}
use Rattle.json_tree.proofs.KeyIndices.{value-found, value-none}
use Rattle.json_tree.proofs.members.Members.get.Goals as goal

pub returns-in-Some : goal.returns-in-Some
returns-in-Some g c =
    let k = c.args.key.now in
    let f = subst (λ ms. (c.in-Some.at ≡ key_index k (keys_of ms)) × (c.in-Some.at < length ms)) (sym c.self.view_is) c.in-Some.ensures in
    ap (value_of k) (sym c.self.view_is) ∙ value-found c.self.inside.pairs.items k c.in-Some.at c.index.result.now f.0 f.1 c.index.ensures

pub returns-in-None : goal.returns-in-None
returns-in-None g c = value-none c.args.self.now c.args.key.now c.in-None.ensures
