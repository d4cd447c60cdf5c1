-- The JSON text has one value, and the value one meaning.
use Rattle.avro_file.proofs.Answered.{one_schema}
use Rattle.avro_file.proofs.schema_laws.one_text_one_schema.Goals as goal

pub returns : goal.returns
returns c = one_schema
