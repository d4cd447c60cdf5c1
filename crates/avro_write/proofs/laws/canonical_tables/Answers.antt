use Rattle.avro_write.proofs.TableLaw.{table_encodes, table_tells}
use Rattle.avro_write.proofs.laws.canonical_tables.Goals as goal

pub returns : goal.returns
returns c = record { encodes = table_encodes; tells = table_tells }
