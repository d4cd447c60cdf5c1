-- No row so far means a text under a timestamp.
use Rattle.std.proofs.Common.{◌≡◌, ℕ, ◌<◌, get_or}
use Rattle.json_tree.specs.Tree.{Json}
use Rattle.json_flat.specs.Columns.{means}
use Rattle.json_flat.specs.Meaning.{text_timestamp}
use Rattle.json_columns.specs.Gathered.{field_meanings}
use Rattle.json_flat.specs.Reading.{struct_in}
use Rattle.json_columns.proofs.texts.any_row_has_text.Given as goal

abbrev pub invariant-loop-row : goal.invariant-loop-row
invariant-loop-row l = (k : ℕ) (v : Json) → k < l.row-index → means (struct_in (field_meanings l.fields)) (get_or l.rows k v) ≡ text_timestamp → ⊥
