-- The first array that has no JSON text is refused.
use Rattle.std.proofs.Common.{arith}
use Rattle.json_write.proofs.RowLemmas.{refusal_at, one_more_none}
use Rattle.json_write.proofs.keys.check_all.Goals as goal

pub returns-in-Err : goal.returns-in-Err
returns-in-Err c = refusal_at c.args.arrays.now c.loop-k.k c.index-arrays-k.result c.in-Err.error (omega arith) c.index-arrays-k.is c.loop-k.invariant c.in-Err.ensures

pub loop-k-preserved : goal.loop-k-preserved
loop-k-preserved c = one_more_none c.args.arrays.now c.loop-k.k c.index-arrays-k.result (omega arith) c.index-arrays-k.is c.loop-k.invariant c.in_default.ensures
