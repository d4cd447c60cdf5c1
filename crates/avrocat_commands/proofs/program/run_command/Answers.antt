-- The words of a block have as many fields as flags, and `make` reads nothing.
use Rattle.std.proofs.Common.{subst}
use Rattle.cli_words.proofs.OneCommand.{block_each, blocks_have_rows}
use Rattle.cli_words.specs.Stands.{Stands}
use Rattle.avrocat_commands.proofs.program.run_command.Goals as goal

pub run_block-requires : goal.run_block-requires
run_block-requires g c = block_each c.requires.0 c.in-Block.block (subst (Stands c.requires.0) c.in-Block.is c.requires.1)

pub run_avro-requires : goal.run_avro-requires
run_avro-requires g c = blocks_have_rows c.requires.0 c.in-Avro.avro (subst (Stands c.requires.0) c.in-Avro.is c.requires.1)
