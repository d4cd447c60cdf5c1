use Rattle.std.proofs.Common.{◌≡◌, ℕ, ◌<◌, get_or}
use Rattle.json_tree.specs.Tree.{Json}
use Rattle.json_flat.specs.Columns.{means}
use Rattle.json_flat.specs.Meaning.{text_timestamp}
use Rattle.json_flat.specs.Reading.{reading}
use Rattle.json_columns.proofs.texts.any_has_text.Given as goal

abbrev pub invariant-loop-value : goal.invariant-loop-value
invariant-loop-value l = (k : ℕ) (v : Json) → k < l.value-index → means (reading l.data_type) (get_or l.values k v) ≡ text_timestamp → ⊥
