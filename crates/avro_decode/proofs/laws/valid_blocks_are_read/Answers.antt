use Rattle.avro_decode.proofs.Valid.{valid_blocks}
use Rattle.avro_decode.proofs.laws.valid_blocks_are_read.Goals as goal

pub returns : goal.returns
returns c = valid_blocks
