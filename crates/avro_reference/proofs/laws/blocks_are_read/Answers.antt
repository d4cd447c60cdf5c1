use Rattle.avro_reference.proofs.Exact.{block_gives_rows, block_is_negative, block_is_bad, carried_blocks}
use Rattle.avro_reference.proofs.laws.blocks_are_read.Goals as goal

pub returns-clause-rows : goal.returns-clause-rows
returns-clause-rows c = block_gives_rows

pub returns-clause-negative : goal.returns-clause-negative
returns-clause-negative c = block_is_negative

pub returns-clause-bad : goal.returns-clause-bad
returns-clause-bad c = block_is_bad

pub returns-clause-carried : goal.returns-clause-carried
returns-clause-carried c = carried_blocks
