use Rattle.avro_decode.proofs.Members.{has_kind}
use Rattle.avro_decode.proofs.steps.decode_any.Goals as goal

pub decode_value-requires-clause-kind : goal.decode_value-requires-clause-kind
decode_value-requires-clause-kind g c = has_kind c.args.schema.now c.args.builder.now c.requires.suits
