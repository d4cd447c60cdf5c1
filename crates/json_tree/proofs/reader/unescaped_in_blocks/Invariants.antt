use Rattle.std.proofs.Common.{◌≡◌, ◌≤◌, ◌+◌, length}
use Rattle.std.specs.List.{prefix_len}
use Rattle.arrow_base.specs.JsonString.{is_unescaped}
use Rattle.json_tree.proofs.reader.unescaped_in_blocks.Given as goal

abbrev pub invariant-loop-block : goal.invariant-loop-block
invariant-loop-block l = record {
  same : prefix_len is_unescaped l.bytes + length l.rest ≡ length l.bytes + prefix_len is_unescaped l.rest;
  within : length l.rest ≤ length l.bytes;
}

abbrev pub decreases-loop-block : goal.decreases-loop-block
decreases-loop-block l = length l.rest
