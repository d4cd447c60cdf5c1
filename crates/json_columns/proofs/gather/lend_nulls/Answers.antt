use Rattle.json_columns.proofs.SizedLists.{lend_null}
use Rattle.json_columns.proofs.gather.lend_nulls.Goals as goal

pub loop-preserved : goal.loop-preserved
loop-preserved c = lend_null _ _ _ c.loop.counter _ c.requires.null c.in_ok-push.ensures.items c.loop.invariant
