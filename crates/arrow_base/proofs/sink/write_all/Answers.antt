use Rattle.std.proofs.Common.{rules}
use Rattle.arrow_base.proofs.Written.{underway-take, tail-whole}
use Rattle.arrow_base.proofs.sink.write_all.Goals as goal

pub loop-rest-preserved : goal.loop-rest-preserved
loop-rest-preserved g c = record {
  underway = rw (tail-whole c.loop-rest.rest.now c.in-Ok.n) (underway-take _ _ _ _ _ _ c.loop-rest.invariant.underway c.in-Ok.ensures.taken);
  never_falls = search rules;
  same = search rules;
}
