use Rattle.std.proofs.Common.{ap, arith, length, sym}
use Rattle.first_seen.proofs.Indices.{grown, kept, last}
use Rattle.first_seen.proofs.FirstSeen.add.Goals as goal

pub returns-in-Some-clause-keys : goal.returns-in-Some-clause-keys
returns-in-Some-clause-keys g c = kept g.K.PartialEq.eq c.args.self.now c.args.key c.in-Some.index (sym c.in-Some.ensures)

pub returns-clause-keys : goal.returns-clause-keys
returns-clause-keys g c = grown g.K.PartialEq.eq c.args.self.now c.push.new.self c.args.key (sym c.in_default.ensures) c.in_ok-push.ensures.pushed

pub returns-clause-index : goal.returns-clause-index
returns-clause-index g c = last g.K.PartialEq.eq g.met.K.Eq.laws c.args.self.now c.push.new.self c.args.key c.len-index.result (omega (arith, c.len-index.ensures, c.self.inside.keys.ok.0, ap length c.self.view_is)) (sym c.in_default.ensures) c.in_ok-push.ensures.pushed
