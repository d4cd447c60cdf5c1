use Rattle.avro_schema.proofs.ExampleLemmas as lemmas
use Rattle.avro_schema.proofs.laws.examples.Goals as goal

pub returns-clause-record_of_two : goal.returns-clause-record_of_two
returns-clause-record_of_two c = lemmas.record_example

pub returns-clause-array : goal.returns-clause-array
returns-clause-array c = lemmas.array_example

pub returns-clause-sized_array : goal.returns-clause-sized_array
returns-clause-sized_array c = lemmas.sized_array_example

pub returns-clause-skipped_array : goal.returns-clause-skipped_array
returns-clause-skipped_array c = lemmas.skipped_array_example

pub returns-clause-null : goal.returns-clause-null
returns-clause-null c = lemmas.null_example

pub returns-clause-member : goal.returns-clause-member
returns-clause-member c = lemmas.member_example

pub returns-clause-negative_size : goal.returns-clause-negative_size
returns-clause-negative_size c = lemmas.break_example
