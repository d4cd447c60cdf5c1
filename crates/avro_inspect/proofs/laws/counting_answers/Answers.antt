use Rattle.avro_inspect.proofs.Complete.{files_are_counted, schema_is_right}
use Rattle.avro_inspect.proofs.laws.counting_answers.Goals as goal

pub returns-clause-counted : goal.returns-clause-counted
returns-clause-counted c = files_are_counted

pub returns-clause-schema : goal.returns-clause-schema
returns-clause-schema c = schema_is_right
