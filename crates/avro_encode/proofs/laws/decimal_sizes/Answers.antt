use Rattle.avro_encode.proofs.EvenSizes.{decimal_sizes}
use Rattle.avro_encode.proofs.laws.decimal_sizes.Goals as goal

pub returns : goal.returns
returns c = record { sizes = decimal_sizes }
