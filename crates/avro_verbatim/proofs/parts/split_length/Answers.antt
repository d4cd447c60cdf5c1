use Rattle.std.proofs.Common.{refl, ◌/◌}
use Rattle.avro_verbatim.proofs.Numbers.{length_byte}
use Rattle.avro_verbatim.proofs.parts.split_length.Goals as goal

pub returns-else-byte-ne0 : goal.returns-else-byte-ne0
returns-else-byte-ne0 c = length_byte c.args.bytes.now c.in-Some.rest.now c.in-Some.byte.now (c.in-Some.byte.now / 2) c.in-Some.ensures.cases.0 c.if-byte-lt128.true c.if-byte-ne0.false refl
