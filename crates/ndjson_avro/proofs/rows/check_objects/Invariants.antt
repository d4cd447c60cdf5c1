-- All values before this one are objects.
use Rattle.std.proofs.Common.{◌≡◌, ℕ, ◌<◌, get_or, true}
use Rattle.json_tree.specs.Tree.{Json}
use Rattle.ndjson_avro.specs.Values.{is_object}
use Rattle.ndjson_avro.proofs.rows.check_objects.Given as goal

abbrev pub invariant-loop-value : goal.invariant-loop-value
invariant-loop-value l = (k : ℕ) (v : Json) → k < l.value-index → is_object (get_or l.values k v) ≡ true
