use Rattle.avro_read.proofs.Narrower as narrower
use Rattle.avro_read.proofs.laws.narrower_reads.Goals as goal

pub returns-clause-chunks : goal.returns-clause-chunks
returns-clause-chunks c fields avro_fields wide narrow marker bytes wide_faults faults limit new other chunk answer k reads next steady =
    narrower.narrower_reads fields avro_fields wide narrow marker bytes wide_faults faults limit new other chunk k reads answer next steady

pub returns-clause-end : goal.returns-clause-end
returns-clause-end c = narrower.narrower_ends

pub returns-clause-decoded : goal.returns-clause-decoded
returns-clause-decoded c = narrower.narrower_is_decoded

pub returns-clause-made : goal.returns-clause-made
returns-clause-made c = narrower.narrower_is_made
