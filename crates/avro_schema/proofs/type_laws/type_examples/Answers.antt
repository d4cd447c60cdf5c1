use Rattle.avro_schema.proofs.TypeExampleLemmas as lemmas
use Rattle.avro_schema.proofs.type_laws.type_examples.Goals as goal

pub returns-clause-types : goal.returns-clause-types
returns-clause-types c = lemmas.type_table

pub returns-clause-large_types : goal.returns-clause-large_types
returns-clause-large_types c = lemmas.large_type_table

pub returns-clause-nullable : goal.returns-clause-nullable
returns-clause-nullable c = lemmas.nullable_examples

pub returns-clause-carried : goal.returns-clause-carried
returns-clause-carried c = lemmas.carried_examples
