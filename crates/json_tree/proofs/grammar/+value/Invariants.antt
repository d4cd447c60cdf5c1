use Rattle.std.proofs.Common.{◌≡◌, ℕ, ◌≤◌, ◌+◌, ◌*◌, List, length}
use Rattle.json_tree.specs.Tree.{Json}
use Rattle.json_tree.specs.Reading.{put_together, led, entry_at, listed_at, member_at, value_at}
use Rattle.json_tree.proofs.grammar.+value.Given as goal

abbrev pub decreases-array : goal.decreases-array
decreases-array l = 2 * l.depth + 1

abbrev pub decreases-object : goal.decreases-object
decreases-object l = 2 * l.depth + 1

abbrev pub decreases-value : goal.decreases-value
decreases-value l = 2 * l.depth

abbrev pub invariant-array-loop-items : goal.invariant-array-loop-items
invariant-array-loop-items l = record {
  forward : length l.reader ≤ length l.fn.reader;
  reads : (n : ℕ) × (length l.reader ≤ n) × (entry_at (led (value_at l.depth)) 93 n l.items.items l.reader ≡ listed_at (led (value_at l.depth)) 93 l.fn.reader);
}

abbrev pub decreases-array-loop-items : goal.decreases-array-loop-items
decreases-array-loop-items l = length l.reader

abbrev pub invariant-object-loop-members : goal.invariant-object-loop-members
invariant-object-loop-members l = record {
  forward : length l.reader ≤ length l.fn.reader;
  reads : (n : ℕ) × (raw : List (List ℕ × Json)) × (length l.reader ≤ n) × (put_together raw ≡ l.members) × (entry_at (member_at (value_at l.depth)) 125 n raw l.reader ≡ listed_at (member_at (value_at l.depth)) 125 l.fn.reader);
}

abbrev pub decreases-object-loop-members : goal.decreases-object-loop-members
decreases-object-loop-members l = length l.reader
