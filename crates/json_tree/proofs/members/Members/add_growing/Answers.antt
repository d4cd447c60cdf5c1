use Rattle.std.proofs.Common.{◌≡◌, ◌≤◌, ◌∷◌, ◌++◌, ◌∙◌, [], length, true, ap, sym, subst, drop, arith}
use Rattle.json_tree.specs.Keys.{keys_of}
use Rattle.json_tree.specs.Layout.{distinct, key_index, Indexed}
use Rattle.json_tree.proofs.KeyIndices.{keys-append, length-keys, distinct-push}
use Rattle.json_tree.proofs.members.Members.add_growing.Goals as goal

pub invariant_of-self-2 : goal.invariant_of-self-2
invariant_of-self-2 g c =
    let ms = c.self.inside.pairs.items in
    let k = c.push_reserved.ensures.items in
    let n : keys_of c.push_reserved.new.self.items ≡ keys_of ms ++ c.args.key ∷ [] = ap keys_of (k ∙ ap (λ r. r ++ (c.args.key, c.blank.result) ∷ []) c.reserve.ensures.items) ∙ keys-append ms c.args.key c.blank.result in
    let q = subst (λ xs. length xs ≤ key_index c.args.key (keys_of xs)) (sym c.self.view_is) c.requires in
    let l : length (keys_of ms) ≤ key_index c.args.key (keys_of ms) = omega (arith, q, length-keys ms) in
    let a : c.len-at.result ≡ length (keys_of ms) = omega (arith, length-keys ms, c.len-at.ensures, ap length c.reserve.ensures.items, c.reserve.new.self.ok.0) in
    let s : c.as_str.result.now ≡ c.args.key = c.as_str.ensures in
    let h = c.in_ok-add_index.ensures.added (keys_of ms) a (subst (λ k. length (keys_of ms) ≤ key_index k (keys_of ms)) (sym s) l) c.self.invariant.1 in
    subst (λ ks. (distinct ks ≡ true) × Indexed c.add_index.new.indices (drop 16 ks)) (sym n)
    (distinct-push (keys_of ms) c.args.key c.self.invariant.0 l, subst (λ k. Indexed c.add_index.new.indices (drop 16 (keys_of ms ++ k ∷ []))) s h)
