use Rattle.std.proofs.Common.{arith}
use Rattle.avro_canonical.proofs.Accepted.{are_bytes}
use Rattle.avro_canonical.proofs.bytes.tell_bytes.Goals as goal

pub returns-clause-bytes : goal.returns-clause-bytes
returns-clause-bytes c = are_bytes c.args.bytes.now (λ i. omega (arith, c.type_inv.bytes i))
