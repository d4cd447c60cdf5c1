use Rattle.avro_types.proofs.Returned.{schema_and_back}
use Rattle.avro_types.proofs.laws.schema_and_back.Goals as goal

pub returns : goal.returns
returns c = record { law = schema_and_back }
