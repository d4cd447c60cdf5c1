use Rattle.avro_schema.proofs.OneLocation as lemmas
use Rattle.avro_schema.proofs.laws.one_break.Goals as goal

pub returns-clause-broken : goal.returns-clause-broken
returns-clause-broken c = lemmas.one_break

pub returns-clause-rows : goal.returns-clause-rows
returns-clause-rows c = lemmas.same_break
