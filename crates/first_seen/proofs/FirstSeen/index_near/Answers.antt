use Rattle.std.proofs.Common.{◌∙◌, ap}
use Rattle.first_seen.specs.Keys.{index_of}
use Rattle.first_seen.proofs.Indices.{beside, held}
use Rattle.first_seen.proofs.FirstSeen.index_near.Goals as goal

pub returns-in-Some : goal.returns-in-Some
returns-in-Some g c =
    let found = c.in-Some.ensures.lookup in
    beside g.K.PartialEq.eq g.met.K.Eq.laws c.self.inside.keys.items c.args.near c.in-Some.other.now c.args.key.now c.self.invariant.2
    (held c.self.inside.keys.items c.deref.result.now c.args.near c.in-Some.other.now c.deref.ensures.value found.0 found.1) c.if-eq.ensures
    ∙ ap (λ us. index_of g.K.PartialEq.eq us c.args.key.now) c.self.view_is
