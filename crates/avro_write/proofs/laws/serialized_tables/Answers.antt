use Rattle.avro_write.proofs.RowsLaw.{rows_are_table, rows_encode}
use Rattle.avro_write.proofs.laws.serialized_tables.Goals as goal

pub returns : goal.returns
returns c = record { table = rows_are_table; encodes = rows_encode }
