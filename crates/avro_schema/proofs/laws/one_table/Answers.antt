use Rattle.avro_schema.proofs.RowLaws.{same_pieces, same_table, narrower}
use Rattle.avro_schema.proofs.laws.one_table.Goals as goal

pub returns-clause-one : goal.returns-clause-one
returns-clause-one c = same_table

pub returns-clause-narrower : goal.returns-clause-narrower
returns-clause-narrower c = narrower

pub returns-clause-pieces : goal.returns-clause-pieces
returns-clause-pieces c = same_pieces
