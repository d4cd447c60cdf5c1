use Rattle.std.proofs.Common.{◌≤◌, ℕ, length}
use Rattle.std.specs.Prelude.{string_bytes}
use Rattle.std.specs.Str.{IsUtf8}
use Rattle.json_tree.proofs.CharTurns.{Turn}
use Rattle.json_lend.proofs.strings.fill.Given as goal

abbrev pub invariant-loop-reader : goal.invariant-loop-reader
invariant-loop-reader l = record {
  text : IsUtf8 l.reader;
  reads : (n : ℕ) × (length l.reader ≤ n) × Turn n (string_bytes l.buffer) l.reader l.fn.reader;
}

abbrev pub decreases-loop-reader : goal.decreases-loop-reader
decreases-loop-reader l = length l.reader
