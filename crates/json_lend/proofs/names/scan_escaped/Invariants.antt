use Rattle.std.proofs.Common.{◌≡◌, ◌≤◌, ◌+◌, ◌-◌, length, drop}
use Rattle.json_tree.specs.Layout.{key_index}
use Rattle.json_lend.proofs.names.scan_escaped.Given as goal

abbrev pub invariant-loop-i : goal.invariant-loop-i
invariant-loop-i l = record {
  same : key_index l.key l.names ≡ l.i + key_index l.key (drop l.i l.names);
  within : l.i ≤ length l.names;
}

abbrev pub decreases-loop-i : goal.decreases-loop-i
decreases-loop-i l = length l.names - l.i
