-- The rules go on with parts of smaller size. The fields so far are those of the names so far.
use Rattle.std.proofs.Common.{◌≡◌, ◌+◌, ◌*◌, suc, [], ◌∷◌, take}
use Rattle.json_infer.specs.Parts.{sizes}
use Rattle.json_infer.specs.Columns.{coerced_columns, column_sizes}
use Rattle.json_infer.specs.Seen.{seen_size}
use Rattle.json_infer.proofs.coercion.+coerced.Given as goal

abbrev pub decreases-coerced : goal.decreases-coerced
decreases-coerced l = 4 * seen_size l.seen.now + 1

abbrev pub decreases-coerced_columns : goal.decreases-coerced_columns
decreases-coerced_columns l = 4 * suc (column_sizes l.columns.now)

abbrev pub decreases-coerced_field : goal.decreases-coerced_field
decreases-coerced_field l = 4 * sizes l.types.now + 3

abbrev pub decreases-coerced_distinct : goal.decreases-coerced_distinct
decreases-coerced_distinct l = 4 * sizes l.types.now + 2

abbrev pub decreases-coerced_both : goal.decreases-coerced_both
decreases-coerced_both l = 4 * sizes (l.one.now ∷ l.other.now ∷ []) + 2

abbrev pub decreases-coerced_pair : goal.decreases-coerced_pair
decreases-coerced_pair l = 4 * sizes (l.one.now ∷ l.other.now ∷ [])

abbrev pub invariant-coerced_columns-loop-index : goal.invariant-coerced_columns-loop-index
invariant-coerced_columns-loop-index l = l.fields.items ≡ coerced_columns (take l.index l.columns)
