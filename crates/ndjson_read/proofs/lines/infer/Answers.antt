use Rattle.ndjson_read.proofs.Complete.{complete, rises}
use Rattle.ndjson_read.proofs.lines.infer.Goals as goal

pub returns-clause-complete : goal.returns-clause-complete
returns-clause-complete g c = complete _ _ _ _ c.infer_first.result c.infer_first.ensures.ok c.infer_first.ensures.err

pub returns-clause-never_falls : goal.returns-clause-never_falls
returns-clause-never_falls g c = rises _ _ _ _ c.infer_first.result c.infer_first.ensures.ok c.infer_first.ensures.err
