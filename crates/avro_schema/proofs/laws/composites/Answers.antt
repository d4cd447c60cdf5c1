use Rattle.std.proofs.Common.{ap}
use Rattle.avro_schema.proofs.ByLists as composites
use Rattle.avro_schema.proofs.laws.composites.Goals as goal

pub returns-clause-encoded : goal.returns-clause-encoded
returns-clause-encoded c = record {
  array = λ item bytes x. composites.both_ways (ap (λ P. P bytes x) (composites.encodes_array item));
  union = λ members bytes x. composites.both_ways (ap (λ P. P bytes x) (composites.encodes_union members));
  fields = λ r bytes x. composites.both_ways (ap (λ P. P bytes x) (composites.encodes_record r));
}

pub returns-clause-skipped : goal.returns-clause-skipped
returns-clause-skipped c = record {
  array = λ item bytes p. composites.both_ways (ap (λ P. P bytes p) (composites.skips_array item));
  union = λ members bytes p. composites.both_ways (ap (λ P. P bytes p) (composites.skips_union members));
  fields = λ r bytes p. composites.both_ways (ap (λ P. P bytes p) (composites.skips_record r));
}

pub returns-clause-broken : goal.returns-clause-broken
returns-clause-broken c = record {
  array = λ item bytes. composites.both_ways (ap (λ P. P bytes) (composites.broken_array item));
  union = λ members bytes. composites.both_ways (ap (λ P. P bytes) (composites.broken_union members));
  fields = λ r bytes. composites.both_ways (ap (λ P. P bytes) (composites.broken_record r));
}

pub returns-clause-carried : goal.returns-clause-carried
returns-clause-carried c = record {
  array = λ item. composites.both_ways (composites.carried_array item);
  union = λ members. composites.both_ways (composites.carried_union members);
  fields = composites.carried_record;
}
