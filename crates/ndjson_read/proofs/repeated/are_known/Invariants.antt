-- The members so far are known.
use Rattle.std.proofs.Common.{◌≤◌, ℕ, List, length}
use Rattle.json_tree.specs.Tree.{Json}
use Rattle.json_tree.specs.Reading.{put_together}
use Rattle.json_tree.proofs.Turns.{ObjectTurn}
use Rattle.ndjson_read.specs.Compared.{AreKnown}
use Rattle.ndjson_read.proofs.repeated.are_known.Given as goal

abbrev pub invariant-loop-near : goal.invariant-loop-near
invariant-loop-near l = (n : ℕ) × (raw : List (List ℕ × Json)) × (length l.reader ≤ n) × ObjectTurn 127 n raw l.reader l.fn.reader × AreKnown l.columns (put_together raw)

abbrev pub decreases-loop-near : goal.decreases-loop-near
decreases-loop-near l = length l.reader
