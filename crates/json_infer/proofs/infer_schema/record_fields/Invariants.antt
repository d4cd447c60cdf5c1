-- The fields so far and those of the members that are left are all.
use Rattle.std.proofs.Common.{◌≡◌, ◌++◌, drop}
use Rattle.json_infer.specs.Inferred.{all_fields}
use Rattle.json_infer.proofs.infer_schema.record_fields.Given as goal

abbrev pub invariant-loop-member : goal.invariant-loop-member
invariant-loop-member l = l.fields.items ++ all_fields (drop l.member-index l.member-items) ≡ all_fields l.member-items
