use Rattle.std.proofs.Common.{◌≡◌, ◌≤◌, ◌<◌, ◌∷◌, ◌++◌, ◌∙◌, [], length, true, ap, sym, subst, drop, arith}
use Rattle.json_tree.specs.Keys.{keys_of}
use Rattle.json_tree.specs.Layout.{distinct, key_index, Indexed}
use Rattle.json_tree.proofs.KeyIndices.{keys-append, length-keys, distinct-push, indexed-scanned}
use Rattle.json_tree.proofs.members.Members.add.Goals as goal

pub invariant_of-self : goal.invariant_of-self
invariant_of-self g c =
    let ms = c.self.inside.pairs.items in
    let n : keys_of c.push_reserved.new.self.items ≡ keys_of ms ++ c.args.key ∷ [] = ap keys_of c.push_reserved.ensures.items ∙ keys-append ms c.args.key c.blank.result in
    let q = subst (λ xs. length xs ≤ key_index c.args.key (keys_of xs)) (sym c.self.view_is) c.requires in
    let l : length (keys_of ms) ≤ key_index c.args.key (keys_of ms) = omega (arith, q, length-keys ms) in
    let s : length (keys_of ms) < 16 = omega (arith, length-keys ms, c.len-at.ensures, c.self.inside.pairs.ok.0, c.if-at-lt-SCANNED.true) in
    subst (λ ks. (distinct ks ≡ true) × Indexed c.self.inside.indices (drop 16 ks)) (sym n)
    (distinct-push (keys_of ms) c.args.key c.self.invariant.0 l, indexed-scanned c.self.inside.indices (keys_of ms) c.args.key s c.self.invariant.1)
