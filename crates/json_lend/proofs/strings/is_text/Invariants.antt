use Rattle.std.proofs.Common.{◌≡◌, ◌≤◌, ◌++◌, ℕ, List, length}
use Rattle.std.specs.Str.{IsUtf8}
use Rattle.json_tree.proofs.CharTurns.{Turn}
use Rattle.json_lend.proofs.strings.is_text.Given as goal

abbrev pub invariant-loop-behind : goal.invariant-loop-behind
invariant-loop-behind l = record {
  text : IsUtf8 l.reader;
  reads : (n : ℕ) × (old : List ℕ) × (length l.reader ≤ n) × Turn n old l.reader l.fn.reader × (l.text ≡ old ++ l.left);
}

abbrev pub decreases-loop-behind : goal.decreases-loop-behind
decreases-loop-behind l = length l.reader
