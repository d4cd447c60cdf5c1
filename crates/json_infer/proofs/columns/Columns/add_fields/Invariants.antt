-- The fields so far and those that are left are all.
use Rattle.std.proofs.Common.{◌≡◌, drop}
use Rattle.json_infer.specs.Columns.{with_fields}
use Rattle.json_infer.proofs.columns.Columns.add_fields.Given as goal

abbrev pub invariant-loop-field : goal.invariant-loop-field
invariant-loop-field l = with_fields l.self (drop l.field-index l.fields) ≡ with_fields l.fn.self l.fields
