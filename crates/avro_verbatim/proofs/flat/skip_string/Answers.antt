use Rattle.std.proofs.Common.{refl}
use Rattle.avro_verbatim.proofs.Flats.{string_begins}
use Rattle.avro_verbatim.proofs.flat.skip_string.Goals as goal

pub returns-in-Some : goal.returns-in-Some
returns-in-Some c = string_begins c.args.bytes.now c.in-Some.string.now c.in-Some.rest.now c.in-Some.ensures (c.if-is_utf8.ensures.0 refl)
