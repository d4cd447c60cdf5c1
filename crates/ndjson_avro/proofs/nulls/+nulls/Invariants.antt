-- Null stands in the type of no field before this one.
use Rattle.std.proofs.Common.{◌≡◌, false, take}
use Rattle.ndjson_avro.specs.Nulls.{any_holds_null}
use Rattle.ndjson_avro.proofs.nulls.+nulls.Given as goal

abbrev pub invariant-any_holds_null-loop-field : goal.invariant-any_holds_null-loop-field
invariant-any_holds_null-loop-field l = any_holds_null (take l.field-index l.fields) ≡ false
