use Rattle.std.proofs.Common.{◌≡◌, ◌≤◌, ◌+◌, length}
use Rattle.std.specs.List.{prefix_len}
use Rattle.arrow_base.specs.JsonString.{is_unescaped}
use Rattle.json_tree.proofs.reader.unescaped_in_rest.Given as goal

abbrev pub invariant-loop-first : goal.invariant-loop-first
invariant-loop-first l = record {
  same : prefix_len is_unescaped l.bytes + length l.rest ≡ length l.bytes + prefix_len is_unescaped l.rest;
  within : length l.rest ≤ length l.bytes;
}

abbrev pub decreases-loop-first : goal.decreases-loop-first
decreases-loop-first l = length l.rest
