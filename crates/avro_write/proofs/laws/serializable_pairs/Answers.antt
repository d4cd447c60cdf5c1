use Rattle.avro_write.proofs.Serializable.{record_pairs, serializable_pairs}
use Rattle.avro_write.proofs.laws.serializable_pairs.Goals as goal

pub returns : goal.returns
returns c = record { law = serializable_pairs; columns = record_pairs }
