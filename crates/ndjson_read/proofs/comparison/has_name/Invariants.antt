-- No field so far has the name.
use Rattle.std.proofs.Common.{◌≡◌, drop}
use Rattle.json_tree.specs.Layout.{meets}
use Rattle.ndjson_read.specs.Compared.{names_in}
use Rattle.ndjson_read.proofs.comparison.has_name.Given as goal

abbrev pub invariant-loop-field : goal.invariant-loop-field
invariant-loop-field l = meets l.name (names_in (drop l.field-index l.fields)) ≡ meets l.name (names_in l.fields)
