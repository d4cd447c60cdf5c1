use Rattle.std.proofs.Common.{rules}
use Rattle.ndjson_read.proofs.Parsing.{one_byte}
use Rattle.ndjson_read.proofs.lines.infer_no_rows.Goals as goal

pub returns-in-Ok-2-clause-ok : goal.returns-in-Ok-2-clause-ok
returns-in-Ok-2-clause-ok g c =
    one_byte _ _ _ _ _ c.in-Ok-2.ensures.given (search rules) (search rules) (search rules) (search rules) c.in-Ok-2.ensures.never_falls
