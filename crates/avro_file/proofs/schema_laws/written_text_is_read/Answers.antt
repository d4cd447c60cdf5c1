-- By induction on the schema; the rest holds of each text that stands for a schema.
use Rattle.avro_file.specs.Writing.{schema_text_of}
use Rattle.avro_file.proofs.Answered.{one_schema, only_memory}
use Rattle.avro_file.proofs.ReadBack.{read_back}
use Rattle.avro_file.proofs.schema_laws.written_text_is_read.Goals as goal

pub returns-clause-stands : goal.returns-clause-stands
returns-clause-stands c = read_back

pub returns-clause-one : goal.returns-clause-one
returns-clause-one c schema other h k = one_schema (schema_text_of schema) other schema k (read_back schema h)

pub returns-clause-memory : goal.returns-clause-memory
returns-clause-memory c schema fault h k = only_memory (schema_text_of schema) schema (read_back schema h) fault k
