use Rattle.ndjson_read.proofs.GivenLemmas.{only_memory}
use Rattle.ndjson_read.proofs.rows.infer_iter.Goals as goal

pub returns-clause-complete : goal.returns-clause-complete
returns-clause-complete g c = only_memory g.I.Iterator.next_gives c.args.rows c.infer_into.result c.infer_into.ensures.err
