-- The first fields have their stored ones.
use Rattle.std.proofs.Common.{take}
use Rattle.ndjson.specs.LineColumns.{AreStoredFor}
use Rattle.ndjson.proofs.stored.+stored.Given as goal

abbrev pub invariant-stored_fields-loop-field : goal.invariant-stored_fields-loop-field
invariant-stored_fields-loop-field l = AreStoredFor (take l.field-index l.fields) l.stored.items
