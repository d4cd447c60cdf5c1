use Rattle.std.proofs.Common.{take}
use Rattle.json_text.specs.Columns.{AreFields}
use Rattle.avro_ndjson.proofs.plan.columns_of.Given as goal

abbrev pub invariant-loop-field : goal.invariant-loop-field
invariant-loop-field l = AreFields (take l.field-index l.fields) l.columns.items
