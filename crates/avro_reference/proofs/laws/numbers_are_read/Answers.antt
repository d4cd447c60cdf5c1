use Rattle.avro_schema.specs.Number.{Number}
use Rattle.avro_reference.specs.Prefix.{number_at}
use Rattle.avro_reference.proofs.Exact.{reads_all, reads_no_more}
use Rattle.avro_reference.proofs.Prefixes.{number_sound, number_complete}
use Rattle.avro_reference.proofs.laws.numbers_are_read.Goals as goal

pub returns-clause-all : goal.returns-clause-all
returns-clause-all c = reads_all number_at Number number_sound number_complete

pub returns-clause-no_more : goal.returns-clause-no_more
returns-clause-no_more c = reads_no_more number_at Number number_sound number_complete
