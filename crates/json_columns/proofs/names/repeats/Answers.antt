use Rattle.std.proofs.Common.{ap, not}
use Rattle.json_columns.proofs.names.repeats.Goals as goal

pub returns-clause-ok : goal.returns-clause-ok
returns-clause-ok c = ap not c.in_ok-have_distinct_names.ensures.ok
