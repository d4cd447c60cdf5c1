use Rattle.avro_schema.proofs.RowLaws.{rows_exclude}
use Rattle.avro_schema.proofs.laws.rows_or_negative_size.Goals as goal

pub returns : goal.returns
returns c = rows_exclude
