use Rattle.arrow_base.proofs.Runs.{passed-block}
use Rattle.arrow_base.proofs.utf8.plain_blocks_len.Goals as goal

pub loop-block-preserved : goal.loop-block-preserved
loop-block-preserved c =
    let cut = c.in-Some.ensures.cases in
    passed-block _ _ _ _ 16 c.loop-block.invariant cut.0 cut.1 c.if-has_escape.ensures
