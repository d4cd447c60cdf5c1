use Rattle.avro_container.proofs.Settled.{block_settles}
use Rattle.avro_container.proofs.SettledBlocks.{header_settles}
use Rattle.avro_container.proofs.laws.parts_settle.Goals as goal

pub returns-clause-block : goal.returns-clause-block
returns-clause-block c = block_settles

pub returns-clause-header : goal.returns-clause-header
returns-clause-header c = header_settles
