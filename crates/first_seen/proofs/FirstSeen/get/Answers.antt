use Rattle.first_seen.proofs.Indices.{stands}
use Rattle.first_seen.proofs.FirstSeen.get.Goals as goal

pub returns-clause-index : goal.returns-clause-index
returns-clause-index g c =
    stands g.K.PartialEq.eq c.self.inside.keys.items c.deref.result.now c.args.self.now c.args.index c.get.result c.self.invariant.2 c.deref.ensures.value c.self.view_is c.get.ensures.lookup.0 c.get.ensures.lookup.1
