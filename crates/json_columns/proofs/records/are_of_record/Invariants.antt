-- Members of records are read under the type of each field before this one.
use Rattle.std.proofs.Common.{◌≡◌, true, take}
use Rattle.json_columns.specs.Records.{are_of_record}
use Rattle.json_columns.proofs.records.are_of_record.Given as goal

abbrev pub invariant-loop-field : goal.invariant-loop-field
invariant-loop-field l = are_of_record (take l.field-index l.fields) ≡ true
