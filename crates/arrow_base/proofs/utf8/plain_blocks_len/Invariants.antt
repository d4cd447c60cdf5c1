use Rattle.std.proofs.Common.{length}
use Rattle.arrow_base.proofs.Runs.{Passed}
use Rattle.arrow_base.proofs.utf8.plain_blocks_len.Given as goal

abbrev pub invariant-loop-block : goal.invariant-loop-block
invariant-loop-block l = Passed l.fn.text l.rest

abbrev pub decreases-loop-block : goal.decreases-loop-block
decreases-loop-block l = length l.rest
