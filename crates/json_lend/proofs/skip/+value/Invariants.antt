use Rattle.std.proofs.Common.{◌≤◌, ◌+◌, ◌*◌, ℕ, List, length}
use Rattle.json_tree.specs.Tree.{Json}
use Rattle.json_tree.proofs.Turns.{ArrayTurn, ObjectTurn}
use Rattle.json_lend.proofs.skip.+value.Given as goal

abbrev pub decreases-skip_array : goal.decreases-skip_array
decreases-skip_array l = 2 * l.depth + 1

abbrev pub decreases-skip_object : goal.decreases-skip_object
decreases-skip_object l = 2 * l.depth + 1

abbrev pub decreases-skip_value : goal.decreases-skip_value
decreases-skip_value l = 2 * l.depth

abbrev pub invariant-skip_array-loop-reader : goal.invariant-skip_array-loop-reader
invariant-skip_array-loop-reader l = record {
  forward : length l.reader ≤ length l.fn.reader;
  reads : (n : ℕ) × (old : List Json) × (length l.reader ≤ n) × ArrayTurn l.depth n old l.reader l.fn.reader;
}

abbrev pub decreases-skip_array-loop-reader : goal.decreases-skip_array-loop-reader
decreases-skip_array-loop-reader l = length l.reader

abbrev pub invariant-skip_object-loop-reader : goal.invariant-skip_object-loop-reader
invariant-skip_object-loop-reader l = record {
  forward : length l.reader ≤ length l.fn.reader;
  reads : (n : ℕ) × (raw : List (List ℕ × Json)) × (length l.reader ≤ n) × ObjectTurn l.depth n raw l.reader l.fn.reader;
}

abbrev pub decreases-skip_object-loop-reader : goal.decreases-skip_object-loop-reader
decreases-skip_object-loop-reader l = length l.reader
