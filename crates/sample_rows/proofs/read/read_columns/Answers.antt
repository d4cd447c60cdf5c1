use Rattle.sample_rows.proofs.Reading.{chunk_columns}
use Rattle.sample_rows.proofs.read.read_columns.Goals as goal

pub returns-clause-columns : goal.returns-clause-columns
returns-clause-columns c = chunk_columns c.deserialize.result c.in_memory.result c.args.block.now.number_of_rows c.args.fields.now c.args.projection.now c.args.block.now.bytes c.in_memory.ensures c.deserialize.ensures.columns
