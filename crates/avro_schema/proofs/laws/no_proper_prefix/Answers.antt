use Rattle.avro_schema.specs.Encodes.{Encodes}
use Rattle.avro_schema.specs.Skips.{Skips}
use Rattle.avro_schema.proofs.WholePrefixes.{no_longer}
use Rattle.avro_schema.proofs.Encoded.{encodes_reads}
use Rattle.avro_schema.proofs.Skipped.{skips_reads}
use Rattle.avro_schema.proofs.laws.no_proper_prefix.Goals as goal

pub returns-clause-encoded : goal.returns-clause-encoded
returns-clause-encoded c = λ s bytes more v w p q. no_longer (Encodes s) (encodes_reads s) bytes more v w p q

pub returns-clause-skipped : goal.returns-clause-skipped
returns-clause-skipped c = λ s bytes more v w p q. no_longer (Skips s) (skips_reads s) bytes more v w p q

pub returns-clause-encoded_prefix : goal.returns-clause-encoded_prefix
returns-clause-encoded_prefix c = encodes_reads

pub returns-clause-skipped_prefix : goal.returns-clause-skipped_prefix
returns-clause-skipped_prefix c = skips_reads
