use Rattle.arrow_core.specs.declared.physical.PrimitiveType.TheVariants.{Int64}
use Rattle.json_flat.specs.Columns.{lent}
use Rattle.json_columns.proofs.Counting.{few_plain}
use Rattle.json_columns.proofs.flat.read_int64.Goals as goal

pub returns-clause-counted : goal.returns-clause-counted
returns-clause-counted c = few_plain Int64 c.args.data_type.now (lent c.args.values.now) c.requires.plain.0
