-- The values of the rows so far.
use Rattle.std.proofs.Common.{take}
use Rattle.ndjson_read.specs.Needed.{StandFor}
use Rattle.ndjson.proofs.rows.push_values.Given as goal

abbrev pub invariant-loop-row : goal.invariant-loop-row
invariant-loop-row l = StandFor (take l.row-index l.rows) l.values.items
