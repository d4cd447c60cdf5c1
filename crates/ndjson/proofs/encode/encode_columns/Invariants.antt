-- The first columns are made.
use Rattle.ndjson.proofs.MadeLaws.{MadeUpto}
use Rattle.ndjson.proofs.encode.encode_columns.Given as goal

abbrev pub invariant-loop-i : goal.invariant-loop-i
invariant-loop-i l = MadeUpto l.i l.fields l.fn.columns l.columns
