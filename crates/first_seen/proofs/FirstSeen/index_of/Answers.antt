use Rattle.std.proofs.Common.{◌∙◌}
use Rattle.first_seen.proofs.Indices.{in_set, in_tree}
use Rattle.first_seen.proofs.FirstSeen.index_of.Goals as goal

pub returns-in-Some : goal.returns-in-Some
returns-in-Some g c =
    in_set g.K.PartialEq.eq g.K.Ord.cmp c.self.inside.hashed.keys c.self.inside.keys.items c.args.self.now c.self.inside.indices c.args.key.now c.in-Some.index c.self.invariant c.self.view_is c.in-Some.ensures.index

pub returns-in-None : goal.returns-in-None
returns-in-None g c =
    in_tree g.K.PartialEq.eq g.K.Ord.cmp c.self.inside.hashed.keys c.self.inside.keys.items c.args.self.now c.self.inside.indices c.args.key.now c.copied.result c.self.invariant c.self.view_is c.in-None.ensures.index (c.copied.ensures ∙ c.get.ensures.value)
