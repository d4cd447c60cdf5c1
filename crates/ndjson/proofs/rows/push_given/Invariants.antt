-- The values of the rows so far.
use Rattle.ndjson_read.specs.GivenRows.{texts_of}
use Rattle.ndjson_read.specs.Needed.{StandFor}
use Rattle.ndjson.proofs.rows.push_given.Given as goal

abbrev pub invariant-loop-row : goal.invariant-loop-row
invariant-loop-row g l = StandFor (texts_of l.yielded) l.values.items
