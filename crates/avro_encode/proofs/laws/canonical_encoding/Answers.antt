use Rattle.avro_encode.proofs.PlainLaw.{plain_encodes, plain_tells}
use Rattle.avro_encode.proofs.laws.canonical_encoding.Goals as goal

pub returns : goal.returns
returns c = record { encodes = plain_encodes; tells = plain_tells }
