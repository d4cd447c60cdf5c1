use Rattle.avro_verbatim.proofs.Flats.{boolean_begins}
use Rattle.avro_verbatim.proofs.flat.skip_boolean.Goals as goal

pub returns-in-Some : goal.returns-in-Some
returns-in-Some c = boolean_begins c.args.bytes.now c.in-Some.rest.now c.in-Some.byte.now c.in-Some.ensures.cases.0 c.if-byte-le1.true
