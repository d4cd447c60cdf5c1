use Rattle.avro_schema.specs.Encodes.{Encodes}
use Rattle.avro_reference.specs.Read.{read}
use Rattle.avro_reference.proofs.Exact.{reads_all, reads_no_more}
use Rattle.avro_reference.proofs.Values.{read_sound, read_complete}
use Rattle.avro_reference.proofs.laws.values_are_read.Goals as goal

pub returns-clause-all : goal.returns-clause-all
returns-clause-all c = λ s. reads_all (read s) (Encodes s) (read_sound s) (read_complete s)

pub returns-clause-no_more : goal.returns-clause-no_more
returns-clause-no_more c = λ s. reads_no_more (read s) (Encodes s) (read_sound s) (read_complete s)
