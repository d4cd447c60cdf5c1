use Rattle.std.proofs.Common.{◌≡◌, ◌≤◌, ◌+◌, ◌-◌, length, drop}
use Rattle.json_tree.specs.Keys.{keys_of}
use Rattle.json_tree.specs.Layout.{key_index}
use Rattle.json_tree.proofs.members.scan.Given as goal

abbrev pub invariant-loop-i : goal.invariant-loop-i
invariant-loop-i g l = record {
  same : key_index l.key (keys_of l.pairs) ≡ l.i + key_index l.key (keys_of (drop l.i l.pairs));
  within : l.i ≤ length l.pairs;
  scanned : l.i ≤ 16;
}

abbrev pub decreases-loop-i : goal.decreases-loop-i
decreases-loop-i g l = length l.pairs - l.i
