use Rattle.std.proofs.Common.{◌≡◌, ◌≤◌, ◌<◌, ◌∙◌, length, ap, sym, subst, drop, true}
use Rattle.json_tree.specs.Keys.{keys_of}
use Rattle.json_tree.specs.Layout.{distinct, put, key_index, Indexed}
use Rattle.json_tree.proofs.KeyIndices.{put-set, keys-set, new-put, new-key_index, old-key_index}
use Rattle.json_tree.proofs.members.Members.put.Goals as goal

pub invariant_of-self : goal.invariant_of-self
invariant_of-self g c =
    let e = subst (λ k. (c.in-Some.at ≡ key_index k (keys_of c.args.self.now)) × (c.in-Some.at < length c.args.self.now)) c.as_str.ensures c.in-Some.ensures in
    let f = subst (λ ms. (c.in-Some.at ≡ key_index c.args.key (keys_of ms)) × (c.in-Some.at < length ms)) (sym c.self.view_is) e in
    subst (λ ks. (distinct ks ≡ true) × Indexed c.self.inside.indices (drop 16 ks))
    (sym (keys-set c.self.inside.pairs.items c.args.key c.blank.result c.in-Some.at c.index_mut.result.now f.0 f.1 c.index_mut.ensures.value)) c.self.invariant

pub returns-in-Some-clause-put : goal.returns-in-Some-clause-put
returns-in-Some-clause-put g c =
    let e = subst (λ k. (c.in-Some.at ≡ key_index k (keys_of c.args.self.now)) × (c.in-Some.at < length c.args.self.now)) c.as_str.ensures c.in-Some.ensures in
    let f = subst (λ ms. (c.in-Some.at ≡ key_index c.args.key (keys_of ms)) × (c.in-Some.at < length ms)) (sym c.self.view_is) e in (
      c.blank.result,
      put-set c.self.inside.pairs.items c.args.key c.blank.result c.in-Some.at c.index_mut.result.now f.0 f.1 c.index_mut.ensures.value
          ∙ ap (λ ms. put ms (c.args.key, c.blank.result)) c.self.view_is,
    )

pub returns-in-None-clause-put : goal.returns-in-None-clause-put
returns-in-None-clause-put g c =
    let e = subst (λ k. length c.args.self.now ≤ key_index k (keys_of c.args.self.now)) c.as_str.ensures c.in-None.ensures in
    new-put c.add.result c.args.self.now c.add.new.self c.args.key e c.add.ensures.added

pub returns-in-Some-clause-key_index : goal.returns-in-Some-clause-key_index
returns-in-Some-clause-key_index g c =
    let e = subst (λ k. (c.in-Some.at ≡ key_index k (keys_of c.args.self.now)) × (c.in-Some.at < length c.args.self.now)) c.as_str.ensures c.in-Some.ensures in
    let f = subst (λ ms. (c.in-Some.at ≡ key_index c.args.key (keys_of ms)) × (c.in-Some.at < length ms)) (sym c.self.view_is) e in
    old-key_index c.self.inside.pairs.items c.args.key c.blank.result c.in-Some.at c.index_mut.result.now f.0 f.1 c.index_mut.ensures.value

pub returns-in-None-clause-key_index : goal.returns-in-None-clause-key_index
returns-in-None-clause-key_index g c =
    let e = subst (λ k. length c.args.self.now ≤ key_index k (keys_of c.args.self.now)) c.as_str.ensures c.in-None.ensures in
    new-key_index c.add.result c.args.self.now c.add.new.self c.args.key e c.add.ensures.added c.add.ensures.last
