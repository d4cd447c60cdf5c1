use Rattle.std.proofs.Common.{arith}
use Rattle.json_tree.proofs.Blocks.{block-whole, block-stops}
use Rattle.json_tree.proofs.reader.unescaped_in_block.Goals as goal

pub returns-then-stops-eq0 : goal.returns-then-stops-eq0
returns-then-stops-eq0 c = block-whole c.args.block.now c.told-block c.if-stops-eq0.true

pub returns : goal.returns
returns c = block-stops c.args.block.now c.told-block (omega (arith, c.if-stops-eq0.false))
