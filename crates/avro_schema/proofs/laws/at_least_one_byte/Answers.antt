use Rattle.avro_schema.proofs.Bytes.{skips_have, encodes_have}
use Rattle.avro_schema.proofs.RowLaws.{rows_have}
use Rattle.avro_schema.proofs.laws.at_least_one_byte.Goals as goal

pub returns-clause-encoded : goal.returns-clause-encoded
returns-clause-encoded c = encodes_have

pub returns-clause-skipped : goal.returns-clause-skipped
returns-clause-skipped c = skips_have

pub returns-clause-rows : goal.returns-clause-rows
returns-clause-rows c = rows_have
