use Rattle.std.proofs.Common.{◌∙◌, ◌∷◌, ◌++◌, [], ap, arith}
use Rattle.first_seen.proofs.Indices.{hashed_more, indexed_more}
use Rattle.first_seen.proofs.FirstSeen.push.Goals as goal

pub invariant_of-self-then-index-lt-HASHED_KEYS : goal.invariant_of-self-then-index-lt-HASHED_KEYS
invariant_of-self-then-index-lt-HASHED_KEYS g c =
    hashed_more g.K.PartialEq.eq g.met.K.Eq.laws g.K.Ord.cmp c.self.inside.hashed.keys c.self.inside.keys.items c.args.self.now c.push_reserved.new.self.items c.self.inside.indices c.args.key c.args.copy c.len-index.result
    c.requires.copy c.self.invariant c.self.view_is (omega (arith, c.len-index.ensures, c.self.inside.keys.ok.0)) c.requires.absent (c.push_reserved.ensures.items ∙ ap (λ ks. ks ++ c.args.key ∷ []) c.in_ok-reserve.ensures.items)
    c.insert.new.self.keys (omega (arith, c.if-index-lt-HASHED_KEYS.true)) c.in_ok-insert.ensures.keys

pub invariant_of-self-2 : goal.invariant_of-self-2
invariant_of-self-2 g c =
    indexed_more g.K.PartialEq.eq g.met.K.Eq.laws g.K.Ord.cmp c.self.inside.hashed.keys c.self.inside.keys.items c.args.self.now c.push_reserved-2.new.self.items c.self.inside.indices c.args.key c.args.copy c.len-index.result
    c.requires.copy c.self.invariant c.self.view_is (omega (arith, c.len-index.ensures, c.self.inside.keys.ok.0)) c.requires.absent (c.push_reserved-2.ensures.items ∙ ap (λ ks. ks ++ c.args.key ∷ []) c.in_ok-reserve.ensures.items)
    c.insert-2.new.self g.met.K.Ord.matches_eq (omega (arith, c.if-index-lt-HASHED_KEYS.false)) c.in_ok-insert-2.ensures.updates
