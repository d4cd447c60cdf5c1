use Rattle.std.proofs.Common.{arith}
use Rattle.avro_line.proofs.Flats.{boolean_shown}
use Rattle.avro_line.proofs.flat.push_boolean.Goals as goal

pub returns : goal.returns
returns g c = boolean_shown _ _ _ _ c.in-Some.byte c.in-Some.ensures.read (omega (arith, c.if-byte-gt1.false)) c.in_ok-push_boolean_if.ensures.ok
