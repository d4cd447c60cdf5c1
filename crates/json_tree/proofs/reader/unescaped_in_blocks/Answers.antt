use Rattle.std.proofs.Common.{arith}
use Rattle.std.proofs.lemmas.List.Sums.{prefix_len-le-length}
use Rattle.arrow_base.specs.JsonString.{is_unescaped}
use Rattle.json_tree.proofs.reader.unescaped_in_blocks.Goals as goal

pub overflow_sub-result-2 : goal.overflow_sub-result-2
overflow_sub-result-2 c = omega (arith, c.unescaped_in_rest-n.ensures, prefix_len-le-length is_unescaped c.loop-block.rest.now)

pub returns : goal.returns
returns c =
    let rest = c.loop-block.rest.now in
    omega (arith, c.loop-block.invariant.same, c.loop-block.invariant.within, c.unescaped_in_rest-n.ensures, prefix_len-le-length is_unescaped rest)
