use Rattle.std.proofs.Common.{◌≤◌, ℕ, List, length}
use Rattle.std.specs.Str.{IsUtf8}
use Rattle.json_tree.proofs.CharTurns.{Turn}
use Rattle.json_lend.proofs.strings.skip_escaped.Given as goal

abbrev pub invariant-loop-reader : goal.invariant-loop-reader
invariant-loop-reader l = record {
  forward : length l.reader ≤ length l.fn.reader;
  text : IsUtf8 l.reader;
  reads : (n : ℕ) × (old : List ℕ) × (length l.reader ≤ n) × Turn n old l.reader l.fn.reader;
}

abbrev pub decreases-loop-reader : goal.decreases-loop-reader
decreases-loop-reader l = length l.reader
