-- The fields before this one have their columns.
use Rattle.std.proofs.Common.{take}
use Rattle.json_text.specs.Columns.{AreFields}
use Rattle.json_text.proofs.columns.+columns.Given as goal

abbrev pub invariant-columns_of-loop-field : goal.invariant-columns_of-loop-field
invariant-columns_of-loop-field l = AreFields (take l.field-index l.fields) l.columns.items
