-- The items and members so far, and what was read of them.
use Rattle.std.proofs.Common.{◌≤◌, ◌+◌, ◌*◌, ℕ, List, length, map, option_map}
use Rattle.json_tree.specs.Tree.{Json}
use Rattle.json_tree.specs.Reading.{put_together}
use Rattle.json_tree.proofs.Turns.{ArrayTurn, ObjectTurn}
use Rattle.json_infer.specs.Inferred.{type_of}
use Rattle.ndjson_read.proofs.TypeLaws.{ItemsAre}
use Rattle.ndjson_read.proofs.MemberLaws.{FieldsSoFar}
use Rattle.ndjson_read.proofs.comparison.+compare.Given as goal

abbrev pub decreases-compare_array : goal.decreases-compare_array
decreases-compare_array l = 4 * l.depth + 1

abbrev pub decreases-read_member : goal.decreases-read_member
decreases-read_member l = 4 * l.depth + 1

abbrev pub decreases-has_fields : goal.decreases-has_fields
decreases-has_fields l = 4 * l.depth + 2

abbrev pub decreases-compare_object : goal.decreases-compare_object
decreases-compare_object l = 4 * l.depth + 3

abbrev pub decreases-compare_value : goal.decreases-compare_value
decreases-compare_value l = 4 * l.depth

abbrev pub invariant-compare_array-loop-next : goal.invariant-compare_array-loop-next
invariant-compare_array-loop-next l = record {
  forward : length l.reader ≤ length l.fn.reader;
  reads : (n : ℕ) × (old : List Json) × (length l.reader ≤ n) × ArrayTurn l.depth n old l.reader l.fn.reader × ItemsAre l.items (map type_of old) (option_map (λ t. t.now) l.item);
}

abbrev pub decreases-compare_array-loop-next : goal.decreases-compare_array-loop-next
decreases-compare_array-loop-next l = length l.reader

abbrev pub invariant-has_fields-loop-next : goal.invariant-has_fields-loop-next
invariant-has_fields-loop-next l = record {
  forward : length l.reader ≤ length l.fn.reader;
  reads : (n : ℕ) × (raw : List (List ℕ × Json)) × (length l.reader ≤ n) × ObjectTurn l.depth n raw l.reader l.fn.reader × FieldsSoFar l.fields l.index (put_together raw);
}

abbrev pub decreases-has_fields-loop-next : goal.decreases-has_fields-loop-next
decreases-has_fields-loop-next l = length l.reader
