use Rattle.std.proofs.Common.{[], refl}
use Rattle.avro_schema.proofs.Encoded.{encodes_reads}
use Rattle.avro_schema.proofs.Skipped.{skips_reads}
use Rattle.avro_schema.proofs.laws.one_slot.Goals as goal

pub returns-clause-encoded : goal.returns-clause-encoded
returns-clause-encoded c = λ s bytes v w p q. (encodes_reads s bytes bytes [] [] v w p q refl).1

pub returns-clause-skipped : goal.returns-clause-skipped
returns-clause-skipped c = λ s bytes v w p q. (skips_reads s bytes bytes [] [] v w p q refl).1
